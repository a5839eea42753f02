-- Each level takes a promise at least, so the rounds end within the number of promises.
use Rattle.std.proofs.Common.{ltb-true, ltb-false}
use Rattle.std.specs.Prelude.{true, false}
use Rattle.std.proofs.Common.{◌≡◌, ℕ, zero, suc, ◌+◌, ◌-◌, ◌<◌, ◌≤◌, List, [], ◌∷◌, length, get_or, arith, refl, subst}
use Rattle.std.specs.Prelude.{Option, Some, None, Bool}
use Rattle.std.proofs.lemmas.List.Elements.{Contains-get_or}
use Rattle.consistency.specs.declared.flat.Flat.{Flat}
use Rattle.consistency.specs.Flat.{target_of, Alive, Left, Fits}
use Rattle.consistency.specs.Steps.{Level, Leave, gone_of, Taken, Consistent, Solved, still_in}
use Rattle.consistency.proofs.Rounding.{alive_down, alive_below}
use Rattle.consistency.proofs.Levels.{later}

-- who had left has left still
abbrev pub Kept : List (Option ℕ) → List (Option ℕ) → Type 0
Kept before after = (p r : ℕ) → get_or before p None ≡ Some r → get_or after p None ≡ Some r

pub gone_grows : (before after : List (Option ℕ)) → length after ≡ length before → Kept before after → gone_of before ≤ gone_of after
gone_grows [] after e k = omega arith
gone_grows (x ∷ xs) [] e k = absurd (omega arith)
gone_grows (None ∷ xs) (None ∷ ys) e k = gone_grows xs ys (omega arith) (λ p r h. k (suc p) r h)
gone_grows (None ∷ xs) (Some y ∷ ys) e k = let h = gone_grows xs ys (omega arith) (λ p r h. k (suc p) r h) in omega arith
gone_grows (Some x ∷ xs) (None ∷ ys) e k = absurd (let z = k zero x refl in cc)
gone_grows (Some x ∷ xs) (Some y ∷ ys) e k = let h = gone_grows xs ys (omega arith) (λ p r h. k (suc p) r h) in omega arith

pub gone_more : (before after : List (Option ℕ)) (q r : ℕ) → length after ≡ length before → Kept before after
    → q < length before → get_or before q None ≡ None → get_or after q None ≡ Some r → gone_of before < gone_of after
gone_more [] after q r e k lt h h2 = absurd (omega arith)
gone_more (x ∷ xs) [] q r e k lt h h2 = absurd (omega arith)
gone_more (None ∷ xs) (None ∷ ys) zero r e k lt h h2 = absurd cc
gone_more (None ∷ xs) (Some y ∷ ys) zero r e k lt h h2 = let g = gone_grows xs ys (omega arith) (λ p r h. k (suc p) r h) in omega arith
gone_more (Some x ∷ xs) (y ∷ ys) zero r e k lt h h2 = absurd cc
gone_more (None ∷ xs) (None ∷ ys) (suc q) r e k lt h h2 = gone_more xs ys q r (omega arith) (λ p r h. k (suc p) r h) (omega arith) h h2
gone_more (None ∷ xs) (Some y ∷ ys) (suc q) r e k lt h h2 = let g = gone_more xs ys q r (omega arith) (λ p r h. k (suc p) r h) (omega arith) h h2 in omega arith
gone_more (Some x ∷ xs) (None ∷ ys) (suc q) r e k lt h h2 = absurd (let z = k zero x refl in cc)
gone_more (Some x ∷ xs) (Some y ∷ ys) (suc q) r e k lt h h2 = let g = gone_more xs ys q r (omega arith) (λ p r h. k (suc p) r h) (omega arith) h h2 in omega arith

pub gone_within : (left : List (Option ℕ)) → gone_of left ≤ length left
gone_within [] = omega arith
gone_within (None ∷ xs) = let h = gone_within xs in omega arith
gone_within (Some r ∷ xs) = let h = gone_within xs in omega arith

-- ---- what the end of the levels says

-- where the last front is empty, nobody leaves in the round after
stays_still : (g : Flat) (k p : ℕ) (o : Option ℕ) → Left g (suc k) p o → (o ≡ Some (suc k) → ⊥) → Alive g k p → Alive g (suc k) p
stays_still g k p None l ne s = l
stays_still g k p (Some zero) l ne s = absurd l
stays_still g k p (Some (suc r)) l ne s = absurd (l.2 (alive_below g (suc r) k p (later r k l.0 ne) s))

still_up : (g : Flat) (k : ℕ) → Fits g → ((p : ℕ) → p < g.promises → Alive g k p → Alive g (suc k) p)
    → (p : ℕ) → Alive g (suc k) p → Alive g (suc (suc k)) p
still_up g k fit h p s = λ f in' on. let w = s f in' on in
    (w.0, w.1, w.2, (w.3.0, λ l lin al. h (target_of g l) (fit.target_in l lin) (w.3.1 l lin al)))

-- a round that takes nobody is followed by none that does
still_on : (g : Flat) (k : ℕ) → Fits g → ((p : ℕ) → p < g.promises → Alive g k p → Alive g (suc k) p)
    → (d p : ℕ) → p < g.promises → Alive g k p → (m : ℕ) → m ≡ d + k → Alive g m p
still_on g k fit h zero p lt s m e = subst (λ (z : ℕ). Alive g z p) (let y : k ≡ m = omega arith in y) s
still_on g k fit h (suc d) p lt s m e = still_on g (suc k) fit (λ q l. still_up g k fit h q) d p lt (h p lt s) m (omega arith)

pub still : (g : Flat) (k m p : ℕ) → Fits g → ((p : ℕ) → p < g.promises → Alive g k p → Alive g (suc k) p) → k ≤ m → p < g.promises → Alive g k p → Alive g m p
still g k m p fit h le lt s = still_on g k fit h (m - k) p lt s m (omega arith)

end_still : (g : Flat) (k : ℕ) (dead : List Bool) (living : List ℕ) (left : List (Option ℕ)) (front : List ℕ)
    → Level g k dead living left front → length front ≡ 0 → (p : ℕ) → p < g.promises → get_or left p None ≡ Some (suc k) → ⊥
end_still g k dead living left front v none p lt h = let c = v.front_all p lt h in let c1 = c.1 in omega arith

pub ends_consistent : (g : Flat) (k : ℕ) (dead : List Bool) (living : List ℕ) (left : List (Option ℕ)) (front : List ℕ)
    → Fits g → Level g k dead living left front → Taken k left front → length front ≡ 0 → Consistent g
ends_consistent g k dead living left front fit v t none p lt s =
    let le : k ≤ g.promises = (let a = t.whole in let b = gone_within left in let c = v.left_size in omega arith) in
    let h : (p : ℕ) → p < g.promises → Alive g k p → Alive g (suc k) p = λ q l. stays_still g k q (get_or left q None) (v.kept q l) (end_still g k dead living left front v none q l) in
    still g k (suc g.promises) p fit h (omega arith) lt (alive_below g k g.promises p le s)

left_whole : (g : Flat) (k n p : ℕ) (o : Option ℕ) → k ≤ n → (Alive g k p → Alive g n p) → (o ≡ Some (suc k) → ⊥) → Left g (suc k) p o → Left g n p o
left_whole g k n p None le up ne l = up (alive_down g k p l)
left_whole g k n p (Some zero) le up ne l = l
left_whole g k n p (Some (suc r)) le up ne l = let y = later r k l.0 ne in (omega arith, l.1, l.2)

pub ends_solved : (g : Flat) (k : ℕ) (dead : List Bool) (living : List ℕ) (left : List (Option ℕ)) (front : List ℕ)
    → Fits g → Level g k dead living left front → Taken k left front → length front ≡ 0 → Solved g left
ends_solved g k dead living left front fit v t none = (
  v.left_size,
  λ p lt.
      let le : k ≤ g.promises = (let a = t.whole in let b = gone_within left in let c = v.left_size in omega arith) in
      let h : (p : ℕ) → p < g.promises → Alive g k p → Alive g (suc k) p = λ q l. stays_still g k q (get_or left q None) (v.kept q l) (end_still g k dead living left front v none q l) in
      left_whole g k g.promises p (get_or left p None) le (still g k g.promises p fit h le lt) (end_still g k dead living left front v none p lt) (v.kept p lt),
)

-- ---- the levels take promises

pub taken_first : (left : List (Option ℕ)) (front : List ℕ) → (0 < length front → 0 < gone_of left) → Taken 0 left front
taken_first left front h = record { whole = omega arith; more = h }

pub taken_next : (k : ℕ) (left now : List (Option ℕ)) (front next : List ℕ) → Taken k left front → 0 < length front
    → gone_of left ≤ gone_of now → (0 < length next → gone_of left < gone_of now) → Taken (suc k) now next
taken_next k left now front next t some le more = record { whole = (let a = t.more some in omega arith); more = λ s. let a = t.more some in let b = more s in omega arith }

pub leave_grows : (on emptied : List ℕ) (round : ℕ) (before after : List (Option ℕ)) (front : List ℕ) → Leave on emptied round before after front → gone_of before ≤ gone_of after
leave_grows on emptied round before after front e = gone_grows before after e.size e.stays

pub leave_takes : (on emptied : List ℕ) (round : ℕ) (before after : List (Option ℕ)) (front : List ℕ) → Leave on emptied round before after front
    → 0 < length front → gone_of before < gone_of after
leave_takes on emptied round before after front e some =
    let w = e.front_in (get_or front 0 0) (Contains-get_or front 0 0 some) in
    gone_more before after (get_or front 0 0) round e.size e.stays w.0 w.2 w.1

pub taken_level : (on emptied : List ℕ) (round : ℕ) (before after : List (Option ℕ)) (front next : List ℕ) → 1 ≤ round → Leave on emptied (round + 1) before after next
    → Taken (round - 1) before front → 0 < length front → Taken round after next
taken_level on emptied zero before after front next some e t has = absurd (omega arith)
taken_level on emptied (suc k) before after front next some e t has =
    let down : suc k - 1 ≡ k = omega arith in
    taken_next k before after front next (subst (λ (z : ℕ). Taken z before front) down t) has (leave_grows on emptied (suc k + 1) before after next e) (leave_takes on emptied (suc k + 1) before after next e)

pub taken_start : (on emptied : List ℕ) (before after : List (Option ℕ)) (next : List ℕ) → Leave on emptied 1 before after next → Taken 0 after next
taken_start on emptied before after next e = taken_first after next (λ some. let h = leave_takes on emptied 1 before after next e some in omega arith)

pub round_within : (g : Flat) (round : ℕ) (dead : List Bool) (living : List ℕ) (left : List (Option ℕ)) (front : List ℕ)
    → 1 ≤ round → Level g (round - 1) dead living left front → Taken (round - 1) left front → 0 < length front → round ≤ g.promises
round_within g round dead living left front one v t some = let a = t.more some in let b = gone_within left in let c = v.left_size in omega arith

-- what is kept of a promise tells each round
pub told_in : (g : Flat) (n p r : ℕ) (o : Option ℕ) → Left g n p o → r ≤ n → still_in o r ≡ true → Alive g r p
told_in g n p r None l le s = alive_below g r n p le l
told_in g n p r (Some zero) l le s = absurd l
told_in g n p r (Some (suc x)) l le s = alive_below g r x p (let y = ltb-true r (suc x) s in omega arith) l.1

pub told_out : (g : Flat) (n p r : ℕ) (o : Option ℕ) → Left g n p o → r ≤ n → still_in o r ≡ false → Alive g r p → ⊥
told_out g n p r None l le s a = absurd cc
told_out g n p r (Some zero) l le s a = absurd l
told_out g n p r (Some (suc x)) l le s a = l.2 (alive_below g (suc x) r p (let y = ltb-false r (suc x) s in omega arith) a)
