-- The pass backwards is equal to what all runs say, in both directions.
use Rattle.std.proofs.Common.{◌≡◌, refl, ℕ, zero, suc, ◌==◌, Bool, true, false, ◌&&◌, ◌||◌, if◌then◌else◌, List, [], ◌∷◌, ◌++◌, ◌⊎◌, inl, inr, sym, ap, ◌∙◌, eq-eqb, eqb-true}
use Rattle.std.proofs.lemmas.Bool.{cases_Bool, or_cases, and_parts, and_from}
use Rattle.std.proofs.lemmas.List.{append-nil}
use Rattle.bound_tree.specs.Flows.{Flow, End, Names, Sets, Leaves, Either, Again}
use Rattle.bound_tree.specs.Runs.{Mark, Named, Set, InTurn, Turns, Goes, Behind, reaches, Follows}
use Rattle.bound_tree.specs.Live.{live, named_later}
use Rattle.bound_tree.proofs.Tests.{or-left, or-right, picks, cuts, picked, and-false, false-true}

-- whether a run names the local before it sets it; behind the run that is so or not
abbrev pub next : ℕ → List Mark → Bool → Bool
next x [] k = k
next x (Named y p ∷ t) k = if x == y then true else next x t k
next x (Set y ∷ t) k = if x == y then false else next x t k

pub next-append : (x : ℕ) (u v : List Mark) (k : Bool) → next x (u ++ v) k ≡ next x u (next x v k)
next-append x [] v k = refl
next-append x (Named y p ∷ u) v k = ap (λ (b : Bool). if x == y then true else b) (next-append x u v k)
next-append x (Set y ∷ u) v k = ap (λ (b : Bool). if x == y then false else b) (next-append x u v k)

pub next-more : (x : ℕ) (t : List Mark) (j k : Bool) → (j ≡ true → k ≡ true) → next x t j ≡ true → next x t k ≡ true
next-more x [] j k h e = h e
next-more x (Named y p ∷ t) j k h e = picks (x == y) (next x t j) (next x t k) (next-more x t j k h) e
next-more x (Set y ∷ t) j k h e = cuts (x == y) (next x t j) (next x t k) (next-more x t j k h) e

pub moved : (x : ℕ) (t u : List Mark) (on o k : Bool) → t ≡ u → on ≡ o → next x t (on && k) ≡ true → next x u (o && k) ≡ true
moved x t u on o k e f h =
    sym (ap (λ (b : Bool). next x t (b && k)) f ∙ ap (λ (l : List Mark). next x l (o && k)) e) ∙ h

-- ---- runs in turn

pub in-turn : (x : ℕ) (P Q : List Mark → Bool → Type 0) (k c : Bool) (K : Bool → Bool)
    → ((j : Bool) (t : List Mark) (on : Bool) → P t on → next x t (on && j) ≡ true → K j ≡ true)
    → ((t : List Mark) (on : Bool) → Q t on → next x t (on && k) ≡ true → c ≡ true)
    → (t : List Mark) (on : Bool) → InTurn P Q t on → next x t (on && k) ≡ true → K c ≡ true
in-turn x P Q k c K p q t on (inl (g, f)) h = p c t false g (moved x t t on false k refl f h)
in-turn x P Q k c K p q t on (inr (u, v, e, g, w)) h =
    p c u true g (next-more x u (next x v (on && k)) c (q v on w)
    (sym (next-append x u v (on && k)) ∙ moved x t (u ++ v) on on k e refl h))

pub join : (P Q : List Mark → Bool → Type 0) (t : List Mark) (on : Bool) → P t on → ((v : List Mark) × (o : Bool) × Q v o)
    → (u : List Mark) × (o : Bool) × InTurn P Q u o
join P Q t false g q = (t, false, inl (g, refl))
join P Q t true g q = (t ++ q.0, q.1, inr (t, q.0, refl, g, q.2))

-- each flow has a run
pub some-run : (f : Flow) → (t : List Mark) × (on : Bool) × Goes f t on
some-run End = ([], true, (refl, refl))
some-run (Names x p r) = (Named x p ∷ (some-run r).0, (some-run r).1, ((some-run r).0, refl, (some-run r).2))
some-run (Sets x r) = (Set x ∷ (some-run r).0, (some-run r).1, ((some-run r).0, refl, (some-run r).2))
some-run (Leaves r) = ([], false, (refl, refl))
some-run (Either a b r) =
    join (λ u o. Goes a u o ⊎ Goes b u o) (Goes r) (some-run a).0 (some-run a).1 (inl (some-run a).2) (some-run r)
some-run (Again a r) =
    ((some-run r).0, (some-run r).1, (zero, inr ([], (some-run r).0, refl, (refl, refl), (some-run r).2)))

pub one-turn : (P : List Mark → Bool → Type 0) (t : List Mark) (on : Bool) → P t on → Turns P (suc zero) t on
one-turn P t false g = inl (g, refl)
one-turn P t true g = inr (t, [], sym (append-nil t), g, (refl, refl))

chosen : (x : ℕ) (Q : List Mark → Bool → Type 0) (k c : Bool)
    → (c ≡ true → (v : List Mark) × (o : Bool) × Q v o × (next x v (o && k) ≡ true))
    → ((v : List Mark) × (o : Bool) × Q v o)
    → (c ≡ true) ⊎ (c ≡ false)
    → (v : List Mark) × (o : Bool) × Q v o × (c ≡ true → next x v (o && k) ≡ true)
chosen x Q k c q s (inl e) = ((q e).0, (q e).1, (q e).2, λ _. (q e).3)
chosen x Q k c q s (inr e) = (s.0, s.1, s.2, λ d. false-true (sym e ∙ d))

followed-by : (x : ℕ) (P Q : List Mark → Bool → Type 0) (k c : Bool) (t : List Mark) (on : Bool) → P t on → next x t (on && c) ≡ true
    → ((v : List Mark) × (o : Bool) × Q v o × (c ≡ true → next x v (o && k) ≡ true))
    → (u : List Mark) × (o : Bool) × InTurn P Q u o × (next x u (o && k) ≡ true)
followed-by x P Q k c t false g h q = (t, false, inl (g, refl), h)
followed-by x P Q k c t true g h q = (
  t ++ q.0,
  q.1,
  inr (t, q.0, refl, g, q.2),
  next-append x t q.0 (q.1 && k) ∙ next-more x t c (next x q.0 (q.1 && k)) q.3 h,
)

pub in-turn-to : (x : ℕ) (P Q : List Mark → Bool → Type 0) (k c : Bool)
    → ((t : List Mark) × (on : Bool) × P t on × (next x t (on && c) ≡ true))
    → (c ≡ true → (v : List Mark) × (o : Bool) × Q v o × (next x v (o && k) ≡ true))
    → ((v : List Mark) × (o : Bool) × Q v o)
    → (t : List Mark) × (on : Bool) × InTurn P Q t on × (next x t (on && k) ≡ true)
in-turn-to x P Q k c p q s = followed-by x P Q k c p.0 p.1 p.2 p.3 (chosen x Q k c q s (cases_Bool c))

-- ---- live

closes-if : (x : ℕ) (a : Flow) → live x a (live x a false) ≡ true → (live x a false ≡ true) ⊎ (live x a false ≡ false) → live x a false ≡ true
closes-if x a e (inl y) = y
closes-if x a e (inr n) = sym (ap (λ (b : Bool). live x a b) n) ∙ e

-- one more turn adds nothing
closes : (x : ℕ) (a : Flow) (k : Bool) → live x a (k || live x a k) ≡ true → (k || live x a k) ≡ true
closes x a true e = refl
closes x a false e = closes-if x a e (cases_Bool (live x a false))

turns-live : (x : ℕ) (a : Flow)
    → ((j : Bool) (t : List Mark) (on : Bool) → Goes a t on → next x t (on && j) ≡ true → live x a j ≡ true)
    → (n : ℕ) (k : Bool) (t : List Mark) (on : Bool) → Turns (Goes a) n t on → next x t (on && k) ≡ true → (k || live x a k) ≡ true
turns-live x a ih zero k t on (e, f) h = or-left k (live x a k) (moved x t [] on true k e f h)
turns-live x a ih (suc n) k t on (inl (g, f)) h = or-right k (live x a k) (ih k t false g (moved x t t on false k refl f h))
turns-live x a ih (suc n) k t on (inr (u, v, e, g, w)) h =
    closes x a k (ih (k || live x a k) u true g (next-more x u (next x v (on && k)) (k || live x a k) (turns-live x a ih n k v on w)
    (sym (next-append x u v (on && k)) ∙ moved x t (u ++ v) on on k e refl h)))

either-live : (x : ℕ) (a b : Flow) (c d : Bool) (P Q : Type 0) → (P → c ≡ true) → (Q → d ≡ true) → P ⊎ Q → (c || d) ≡ true
either-live x a b c d P Q p q (inl g) = or-left c d (p g)
either-live x a b c d P Q p q (inr g) = or-right c d (q g)

pub live-from : (x : ℕ) (f : Flow) (k : Bool) (t : List Mark) (on : Bool) → Goes f t on → next x t (on && k) ≡ true → live x f k ≡ true
live-from x End k t on (e, f) h = moved x t [] on true k e f h
live-from x (Names y p r) k t on (u, e, g) h =
    picks (x == y) (next x u (on && k)) (live x r k) (live-from x r k u on g) (moved x t (Named y p ∷ u) on on k e refl h)
live-from x (Sets y r) k t on (u, e, g) h =
    cuts (x == y) (next x u (on && k)) (live x r k) (live-from x r k u on g) (moved x t (Set y ∷ u) on on k e refl h)
live-from x (Leaves r) k t on (e, f) h = moved x t [] on false k e f h
live-from x (Either a b r) k t on g h =
    in-turn x (λ u o. Goes a u o ⊎ Goes b u o) (Goes r) k (live x r k) (λ j. live x a j || live x b j)
    (λ j u o w n. either-live x a b (live x a j) (live x b j) (Goes a u o) (Goes b u o)
    (λ c. live-from x a j u o c n) (λ c. live-from x b j u o c n) w)
    (live-from x r k) t on g h
live-from x (Again a r) k t on (n, g) h =
    in-turn x (Turns (Goes a) n) (Goes r) k (live x r k) (λ j. j || live x a j) (turns-live x a (live-from x a) n) (live-from x r k) t on g h

abbrev pub Found : ℕ → (List Mark → Bool → Type 0) → Bool → Type 0
Found x P k = (t : List Mark) × (on : Bool) × P t on × (next x t (on && k) ≡ true)

live-name : (x y p : ℕ) (r : Flow) (k : Bool) → (live x r k ≡ true → Found x (Goes r) k) → (if x == y then true else live x r k) ≡ true
    → ((x == y) ≡ true) ⊎ ((x == y) ≡ false) → Found x (Goes (Names y p r)) k
live-name x y p r k ih h (inl e) = (
  Named y p ∷ (some-run r).0,
  (some-run r).1,
  ((some-run r).0, refl, (some-run r).2),
  ap (λ (b : Bool). if b then true else next x (some-run r).0 ((some-run r).1 && k)) e,
)
live-name x y p r k ih h (inr e) =
    let s : Found x (Goes r) k = ih (sym (ap (λ (b : Bool). if b then true else live x r k) e) ∙ h) in
    (Named y p ∷ s.0, s.1, (s.0, refl, s.2), ap (λ (b : Bool). if b then true else next x s.0 (s.1 && k)) e ∙ s.3)

live-set : (x y : ℕ) (r : Flow) (k : Bool) → (live x r k ≡ true → Found x (Goes r) k) → (if x == y then false else live x r k) ≡ true
    → ((x == y) ≡ true) ⊎ ((x == y) ≡ false) → Found x (Goes (Sets y r)) k
live-set x y r k ih h (inl e) = false-true (sym (ap (λ (b : Bool). if b then false else live x r k) e) ∙ h)
live-set x y r k ih h (inr e) =
    let s : Found x (Goes r) k = ih (sym (ap (λ (b : Bool). if b then false else live x r k) e) ∙ h) in
    (Set y ∷ s.0, s.1, (s.0, refl, s.2), ap (λ (b : Bool). if b then false else next x s.0 (s.1 && k)) e ∙ s.3)

-- of one of two
one-found : (x : ℕ) (P Q : List Mark → Bool → Type 0) (k : Bool) (A B : Type 0) → (A → Found x P k) → (B → Found x Q k) → A ⊎ B
    → Found x (λ t o. P t o ⊎ Q t o) k
one-found x P Q k A B p q (inl a) = ((p a).0, (p a).1, inl (p a).2, (p a).3)
one-found x P Q k A B p q (inr b) = ((q b).0, (q b).1, inr (q b).2, (q b).3)

live-turn : (x : ℕ) (a r : Flow) (k : Bool) → (live x r k ≡ true → Found x (Goes r) k)
    → (live x a (live x r k) ≡ true → Found x (Goes a) (live x r k))
    → (live x r k ≡ true) ⊎ (live x a (live x r k) ≡ true) → Found x (Goes (Again a r)) k
live-turn x a r k ir ia (inl e) =
    let s : Found x (Goes r) k = ir e in (s.0, s.1, (zero, inr ([], s.0, refl, (refl, refl), s.2)), s.3)
live-turn x a r k ir ia (inr e) =
    let s : Found x (Goes a) (live x r k) = ia e in
    let w : Found x (InTurn (Turns (Goes a) (suc zero)) (Goes r)) k
    = in-turn-to x (Turns (Goes a) (suc zero)) (Goes r) k (live x r k) (s.0, s.1, one-turn (Goes a) s.0 s.1 s.2, s.3) ir (some-run r) in
    (w.0, w.1, (suc zero, w.2), w.3)

pub live-to : (x : ℕ) (f : Flow) (k : Bool) → live x f k ≡ true → Found x (Goes f) k
live-to x End k h = ([], true, (refl, refl), h)
live-to x (Names y p r) k h = live-name x y p r k (live-to x r k) h (cases_Bool (x == y))
live-to x (Sets y r) k h = live-set x y r k (live-to x r k) h (cases_Bool (x == y))
live-to x (Leaves r) k h = false-true h
live-to x (Either a b r) k h =
    in-turn-to x (λ u o. Goes a u o ⊎ Goes b u o) (Goes r) k (live x r k)
    (one-found x (Goes a) (Goes b) (live x r k) (live x a (live x r k) ≡ true) (live x b (live x r k) ≡ true)
    (live-to x a (live x r k)) (live-to x b (live x r k)) (or_cases (live x a (live x r k)) (live x b (live x r k)) h))
    (live-to x r k) (some-run r)
live-to x (Again a r) k h =
    live-turn x a r k (live-to x r k) (live-to x a (live x r k)) (or_cases (live x r k) (live x a (live x r k)) h)

-- ---- named later

pub later-from : (x q : ℕ) (f : Flow) (k : Bool) (t : List Mark) (on : Bool) → Behind x q f t on → next x t (on && k) ≡ true → named_later x q f k ≡ true
later-from x q End k t on b h = absurd b
later-from x q (Names y p r) k t on (inl (e, f, g)) h =
    or-left (((x == y) && (q == p)) && live x r k) (named_later x q r k)
    (and_from ((x == y) && (q == p)) (live x r k) (and_from (x == y) (q == p) (eq-eqb x y e) (eq-eqb q p f)) (live-from x r k t on g h))
later-from x q (Names y p r) k t on (inr b) h =
    or-right (((x == y) && (q == p)) && live x r k) (named_later x q r k) (later-from x q r k t on b h)
later-from x q (Sets y r) k t on b h = later-from x q r k t on b h
later-from x q (Leaves r) k t on b h = later-from x q r k t on b h
later-from x q (Either a b r) k t on (inl g) h =
    or-left (named_later x q a (live x r k) || named_later x q b (live x r k)) (named_later x q r k)
    (in-turn x (λ u o. Behind x q a u o ⊎ Behind x q b u o) (Goes r) k (live x r k) (λ j. named_later x q a j || named_later x q b j)
    (λ j u o w n. either-live x a b (named_later x q a j) (named_later x q b j) (Behind x q a u o) (Behind x q b u o)
    (λ c. later-from x q a j u o c n) (λ c. later-from x q b j u o c n) w)
    (live-from x r k) t on g h)
later-from x q (Either a b r) k t on (inr g) h =
    or-right (named_later x q a (live x r k) || named_later x q b (live x r k)) (named_later x q r k) (later-from x q r k t on g h)
later-from x q (Again a r) k t on (inl g) h =
    or-left (named_later x q a (live x (Again a r) k)) (named_later x q r k)
    (in-turn x (Behind x q a) (Goes (Again a r)) k (live x (Again a r) k) (λ j. named_later x q a j) (later-from x q a) (live-from x (Again a r) k) t on g h)
later-from x q (Again a r) k t on (inr g) h =
    or-right (named_later x q a (live x (Again a r) k)) (named_later x q r k) (later-from x q r k t on g h)

later-name : (x q y p : ℕ) (r : Flow) (k : Bool) → (named_later x q r k ≡ true → Found x (Behind x q r) k)
    → ((((x == y) && (q == p)) && live x r k) ≡ true) ⊎ (named_later x q r k ≡ true) → Found x (Behind x q (Names y p r)) k
later-name x q y p r k ih (inl e) =
    let c : (((x == y) && (q == p)) ≡ true) × (live x r k ≡ true) = and_parts ((x == y) && (q == p)) (live x r k) e in
    let d : ((x == y) ≡ true) × ((q == p) ≡ true) = and_parts (x == y) (q == p) c.0 in
    let s : Found x (Goes r) k = live-to x r k c.1 in
    (s.0, s.1, inl (eqb-true x y d.0, eqb-true q p d.1, s.2), s.3)
later-name x q y p r k ih (inr e) = let s : Found x (Behind x q r) k = ih e in (s.0, s.1, inr s.2, s.3)

pub later-to : (x q : ℕ) (f : Flow) (k : Bool) → named_later x q f k ≡ true → Found x (Behind x q f) k
later-to x q End k h = false-true h
later-to x q (Names y p r) k h =
    later-name x q y p r k (later-to x q r k) (or_cases (((x == y) && (q == p)) && live x r k) (named_later x q r k) h)
later-to x q (Sets y r) k h = later-to x q r k h
later-to x q (Leaves r) k h = later-to x q r k h
later-to x q (Either a b r) k h =
    one-found x (InTurn (λ u o. Behind x q a u o ⊎ Behind x q b u o) (Goes r)) (Behind x q r) k
    ((named_later x q a (live x r k) || named_later x q b (live x r k)) ≡ true) (named_later x q r k ≡ true)
    (λ e. in-turn-to x (λ u o. Behind x q a u o ⊎ Behind x q b u o) (Goes r) k (live x r k)
    (one-found x (Behind x q a) (Behind x q b) (live x r k) (named_later x q a (live x r k) ≡ true) (named_later x q b (live x r k) ≡ true)
    (later-to x q a (live x r k)) (later-to x q b (live x r k)) (or_cases (named_later x q a (live x r k)) (named_later x q b (live x r k)) e))
    (live-to x r k) (some-run r))
    (later-to x q r k) (or_cases (named_later x q a (live x r k) || named_later x q b (live x r k)) (named_later x q r k) h)
later-to x q (Again a r) k h =
    one-found x (InTurn (Behind x q a) (Goes (Again a r))) (Behind x q r) k
    (named_later x q a (live x (Again a r) k) ≡ true) (named_later x q r k ≡ true)
    (λ e. in-turn-to x (Behind x q a) (Goes (Again a r)) k (live x (Again a r) k) (later-to x q a (live x (Again a r) k) e)
    (live-to x (Again a r) k) (some-run (Again a r)))
    (later-to x q r k) (or_cases (named_later x q a (live x (Again a r) k)) (named_later x q r k) h)

-- ---- what follows

reach-name : (x y q : ℕ) (t : List Mark) → (next x t false ≡ true → (p : ℕ) × (reaches x p t ≡ true)) → next x (Named y q ∷ t) false ≡ true
    → ((x == y) ≡ true) ⊎ ((x == y) ≡ false) → (p : ℕ) × (reaches x p (Named y q ∷ t) ≡ true)
reach-name x y q t ih h (inl e) = (q, or-left ((x == y) && (q == q)) (reaches x q t) (and_from (x == y) (q == q) e (eq-eqb q q refl)))
reach-name x y q t ih h (inr e) =
    let s : (p : ℕ) × (reaches x p t ≡ true) = ih (sym (ap (λ (b : Bool). if b then true else next x t false) e) ∙ h) in
    (s.0, or-right ((x == y) && (s.0 == q)) (reaches x s.0 t) s.1)

reach-set : (x y : ℕ) (t : List Mark) → (next x t false ≡ true → (p : ℕ) × (reaches x p t ≡ true)) → next x (Set y ∷ t) false ≡ true
    → ((x == y) ≡ true) ⊎ ((x == y) ≡ false) → (p : ℕ) × (reaches x p (Set y ∷ t) ≡ true)
reach-set x y t ih h (inl e) = false-true (sym (ap (λ (b : Bool). if b then false else next x t false) e) ∙ h)
reach-set x y t ih h (inr e) =
    let s : (p : ℕ) × (reaches x p t ≡ true) = ih (sym (ap (λ (b : Bool). if b then false else next x t false) e) ∙ h) in
    (s.0, ap (λ (b : Bool). if b then false else reaches x s.0 t) e ∙ s.1)

pub next-reaches : (x : ℕ) (t : List Mark) → next x t false ≡ true → (p : ℕ) × (reaches x p t ≡ true)
next-reaches x [] h = false-true h
next-reaches x (Named y q ∷ t) h = reach-name x y q t (next-reaches x t) h (cases_Bool (x == y))
next-reaches x (Set y ∷ t) h = reach-set x y t (next-reaches x t) h (cases_Bool (x == y))

next-name : (x p y q : ℕ) (t : List Mark) → (reaches x p t ≡ true → next x t false ≡ true)
    → (((x == y) && (p == q)) ≡ true) ⊎ (reaches x p t ≡ true) → (if x == y then true else next x t false) ≡ true
next-name x p y q t ih (inl e) = ap (λ (b : Bool). if b then true else next x t false) (and_parts (x == y) (p == q) e).0
next-name x p y q t ih (inr e) = picked (x == y) (next x t false) (ih e)

pub reaches-next : (x p : ℕ) (t : List Mark) → reaches x p t ≡ true → next x t false ≡ true
reaches-next x p [] h = h
reaches-next x p (Named y q ∷ t) h = next-name x p y q t (reaches-next x p t) (or_cases ((x == y) && (p == q)) (reaches x p t) h)
reaches-next x p (Set y ∷ t) h = cuts (x == y) (reaches x p t) (next x t false) (reaches-next x p t) h

-- a local is named later exactly where a naming of it follows
pub later-follows : (f : Flow) (x q : ℕ) → named_later x q f false ≡ true → (p : ℕ) × Follows f x q p
later-follows f x q h =
    let s : Found x (Behind x q f) false = later-to x q f false h in
    let w : (p : ℕ) × (reaches x p s.0 ≡ true) = next-reaches x s.0 (sym (ap (λ (b : Bool). next x s.0 b) (and-false s.1)) ∙ s.3) in
    (w.0, (s.0, s.1, s.2, w.1))

pub follows-later : (f : Flow) (x q p : ℕ) → Follows f x q p → named_later x q f false ≡ true
follows-later f x q p (t, on, b, h) =
    later-from x q f false t on b (ap (λ (c : Bool). next x t c) (and-false on) ∙ reaches-next x p t h)
