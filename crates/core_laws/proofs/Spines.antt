-- Marks stand in what is left of a call itself, never inside an instruction; how many there are.
use Rattle.std.proofs.Common.{◌≡◌, ℕ, ◌+◌, ◌==◌, Option, Some, None, if◌then◌else◌, refl}
use Rattle.core_model.specs.Code.{Code, Done, Do, If, While, Enter, EnterClass, Exit, ◌⧺◌}
use Rattle.core_model.specs.Step.{next_exit}
use Rattle.core_laws.specs.Places.{again}
use Rattle.core_laws.specs.Marks.{Unmarked, Spined, marks_in}
use Rattle.core_laws.proofs.Carried.{IsClosed}

pub unmarked-spined : (k : Code) → Unmarked k → Spined k
unmarked-spined Done h = tt
unmarked-spined (Do n p k) h = unmarked-spined k h
unmarked-spined (If n a b k) h = (h.0, h.1, unmarked-spined k h.2)
unmarked-spined (While n c b k) h = (h.0, h.1, unmarked-spined k h.2)
unmarked-spined (Enter n b k) h = (h.0, unmarked-spined k h.1)
unmarked-spined (EnterClass n c b k) h = (h.0, unmarked-spined k h.1)
unmarked-spined (Exit n r k) h = absurd h

spined-append : (a k : Code) → Unmarked a → Spined k → Spined (a ⧺ k)
spined-append Done k h g = g
spined-append (Do n p s) k h g = spined-append s k h g
spined-append (If n a b s) k h g = (h.0, h.1, spined-append s k h.2 g)
spined-append (While n c b s) k h g = (h.0, h.1, spined-append s k h.2 g)
spined-append (Enter n b s) k h g = (h.0, spined-append s k h.1 g)
spined-append (EnterClass n c b s) k h g = (h.0, spined-append s k h.1 g)
spined-append (Exit n r s) k h g = absurd h

unmarked-append : (a k : Code) → Unmarked a → Unmarked k → Unmarked (a ⧺ k)
unmarked-append Done k h g = g
unmarked-append (Do n p s) k h g = unmarked-append s k h g
unmarked-append (If n a b s) k h g = (h.0, h.1, unmarked-append s k h.2 g)
unmarked-append (While n c b s) k h g = (h.0, h.1, unmarked-append s k h.2 g)
unmarked-append (Enter n b s) k h g = (h.0, unmarked-append s k h.1 g)
unmarked-append (EnterClass n c b s) k h g = (h.0, unmarked-append s k h.1 g)
unmarked-append (Exit n r s) k h g = absurd h

pub spined-closed : IsClosed Spined
spined-closed = record {
  plain = λ n i k h. h;
  past_if = λ n a b k h. h.2;
  yes = λ n a b k h. spined-append a k h.0 h.2;
  no = λ n a b k h. spined-append b k h.1 h.2;
  past_while = λ n c b k h. h.2;
  turn = λ n c b k h. spined-append c (again n c b k) h.0 (unmarked-append b (While n c b Done) h.1 (h.0, h.1, tt), tt, h.2);
  past_enter = λ n b k h. h.1;
  enter = λ n b k r h. spined-append b (Exit n r k) h.0 h.1;
  past_class = λ n c b k h. h.1;
  enter_class = λ n c b k h. spined-append b (Exit n c k) h.0 h.1;
  exit = λ n r k h. h;
}

pub unmarked-none : (r : ℕ) (k : Code) → Unmarked k → marks_in r k ≡ 0
unmarked-none r Done h = refl
unmarked-none r (Do n p k) h = unmarked-none r k h
unmarked-none r (If n a b k) h = unmarked-none r k h.2
unmarked-none r (While n c b k) h = unmarked-none r k h.2
unmarked-none r (Enter n b k) h = unmarked-none r k h.1
unmarked-none r (EnterClass n c b k) h = unmarked-none r k h.1
unmarked-none r (Exit n o k) h = absurd h

pub marks-append : (r : ℕ) (a k : Code) → Unmarked a → marks_in r (a ⧺ k) ≡ marks_in r k
marks-append r Done k h = refl
marks-append r (Do n p s) k h = marks-append r s k h
marks-append r (If n a b s) k h = marks-append r s k h.2
marks-append r (While n c b s) k h = marks-append r s k h.2
marks-append r (Enter n b s) k h = marks-append r s k h.1
marks-append r (EnterClass n c b s) k h = marks-append r s k h.1
marks-append r (Exit n o s) k h = absurd h

-- the marks up to and with the first one
abbrev pub marks_from : ℕ → Option (ℕ × Code) → ℕ
marks_from r None = 0
marks_from r (Some (o, k)) = (if o == r then 1 else 0) + marks_in r k

pub marks-next : (r : ℕ) (k : Code) → marks_in r k ≡ marks_from r (next_exit k)
marks-next r Done = refl
marks-next r (Do n p k) = marks-next r k
marks-next r (If n a b k) = marks-next r k
marks-next r (While n c b k) = marks-next r k
marks-next r (Enter n b k) = marks-next r k
marks-next r (EnterClass n c b k) = marks-next r k
marks-next r (Exit n o k) = refl
