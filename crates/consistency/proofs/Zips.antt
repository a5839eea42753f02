-- Two lists whose elements are related one by one, and the first element with a fact.
use Rattle.std.proofs.Common.{◌≡◌, ℕ, zero, suc, ◌+◌, ◌<◌, List, [], ◌∷◌, ◌++◌, length, get_or, take, arith, refl, sym, ◌∙◌, ap, subst, ◌⊎◌, inl, inr, Bool, true, false, cond, ◌&&◌, ◌||◌}
use Rattle.std.specs.Prelude.{Contains, All, Option, Some, None, find}
use Rattle.std.specs.List.{AllZip, list_all, list_any}
use Rattle.std.proofs.lemmas.List.{take_more}
use Rattle.std.proofs.lemmas.List.Elements.{All-nil, All-cons, All-head, All-tail}
use Rattle.consistency.specs.Blame.{First}

pub zip_push : {A B : Type 0} (R : A → B → Type 0) (xs : List A) (ys : List B) (x : A) (y : B) → AllZip R xs ys → R x y → AllZip R (xs ++ x ∷ []) (ys ++ y ∷ [])
zip_push R [] [] x y z r = (r, tt)
zip_push R [] (b ∷ ys) x y z r = absurd z
zip_push R (a ∷ xs) [] x y z r = absurd z
zip_push R (a ∷ xs) (b ∷ ys) x y z r = (z.0, zip_push R xs ys x y z.1 r)

-- one element more of the second list
pub zip_more : {A B : Type 0} (R : A → B → Type 0) (xs : List A) (ys : List B) (i : ℕ) (x : A) (y : B) → i < length ys → y ≡ get_or ys i y
    → AllZip R xs (take i ys) → R x y → AllZip R (xs ++ x ∷ []) (take (i + 1) ys)
zip_more {A} {B} R xs ys i x y lt is z r =
    subst (λ (w : List B). AllZip R (xs ++ x ∷ []) w) (sym (take_more ys i y lt ∙ ap (λ (w : B). take i ys ++ w ∷ []) (sym is))) (zip_push R xs (take i ys) x y z r)

pub zip_weaker : {A B : Type 0} (R S : A → B → Type 0) → ((x : A) (y : B) → R x y → S x y) → (xs : List A) (ys : List B) → AllZip R xs ys → AllZip S xs ys
zip_weaker R S f [] [] z = tt
zip_weaker R S f [] (b ∷ ys) z = absurd z
zip_weaker R S f (a ∷ xs) [] z = absurd z
zip_weaker R S f (a ∷ xs) (b ∷ ys) z = (f a b z.0, zip_weaker R S f xs ys z.1)

-- what stands in one list has its partner in the other
pub zip_left : {A B : Type 0} (R : A → B → Type 0) (xs : List A) (ys : List B) → AllZip R xs ys → (x : A) → Contains xs x → (y : B) × Contains ys y × R x y
zip_left R xs ys z x c = at R xs ys z x c.0 c.1 c.2
  where
    at : {A B : Type 0} (R : A → B → Type 0) (xs : List A) (ys : List B) → AllZip R xs ys → (x : A) (k : ℕ) → k < length xs → get_or xs k x ≡ x → (y : B) × Contains ys y × R x y
    at R [] ys z x k lt is = absurd (omega arith)
    at R (a ∷ xs) [] z x k lt is = absurd z
    at {A} {B} R (a ∷ xs) (b ∷ ys) z x zero lt is = (b, (zero, omega arith, refl), subst (λ (w : A). R w b) is z.0)
    at R (a ∷ xs) (b ∷ ys) z x (suc k) lt is = let w = at R xs ys z.1 x k (omega arith) is in let c = w.1 in (w.0, (suc c.0, (let l = c.1 in omega arith), c.2), w.2)

pub zip_right : {A B : Type 0} (R : A → B → Type 0) (xs : List A) (ys : List B) → AllZip R xs ys → (y : B) → Contains ys y → (x : A) × Contains xs x × R x y
zip_right R xs ys z y c = at R xs ys z y c.0 c.1 c.2
  where
    at : {A B : Type 0} (R : A → B → Type 0) (xs : List A) (ys : List B) → AllZip R xs ys → (y : B) (k : ℕ) → k < length ys → get_or ys k y ≡ y → (x : A) × Contains xs x × R x y
    at R xs [] z y k lt is = absurd (omega arith)
    at R [] (b ∷ ys) z y k lt is = absurd z
    at {A} {B} R (a ∷ xs) (b ∷ ys) z y zero lt is = (a, (zero, omega arith, refl), subst (λ (w : B). R a w) is z.0)
    at R (a ∷ xs) (b ∷ ys) z y (suc k) lt is = let w = at R xs ys z.1 y k (omega arith) is in let c = w.1 in (w.0, (suc c.0, (let l = c.1 in omega arith), c.2), w.2)

pub zip_all : {A B : Type 0} (R : A → B → Type 0) (P : A → Type 0) (Q : B → Type 0) → ((x : A) (y : B) → R x y → P x → Q y)
    → (xs : List A) (ys : List B) → AllZip R xs ys → All P xs → All Q ys
zip_all R P Q f [] [] z h = All-nil Q
zip_all R P Q f [] (b ∷ ys) z h = absurd z
zip_all R P Q f (a ∷ xs) [] z h = absurd z
zip_all R P Q f (a ∷ xs) (b ∷ ys) z h = All-cons Q b ys (f a b z.0 (All-head P a xs h)) (zip_all R P Q f xs ys z.1 (All-tail P a xs h))

pub zip_back : {A B : Type 0} (R : A → B → Type 0) (P : A → Type 0) (Q : B → Type 0) → ((x : A) (y : B) → R x y → Q y → P x)
    → (xs : List A) (ys : List B) → AllZip R xs ys → All Q ys → All P xs
zip_back R P Q f [] [] z h = All-nil P
zip_back R P Q f [] (b ∷ ys) z h = absurd z
zip_back R P Q f (a ∷ xs) [] z h = absurd z
zip_back R P Q f (a ∷ xs) (b ∷ ys) z h = All-cons P a xs (f a b z.0 (All-head Q b ys h)) (zip_back R P Q f xs ys z.1 (All-tail Q b ys h))

-- ---- tests of the one list against facts of the other

-- a test of x tells a fact of y
pub record Tells {A B : Type 0} (R : A → B → Type 0) (t : A → Bool) (Q : B → Type 0) : Type 0 where
  pub passes : (x : A) (y : B) → R x y → t x ≡ true → Q y
  pub fails : (x : A) (y : B) → R x y → t x ≡ false → Q y → ⊥

test_of : (b : Bool) → (b ≡ true) ⊎ (b ≡ false)
test_of true = inl refl
test_of false = inr refl

and_rest : (a b : Bool) → (a && b) ≡ true → (a ≡ true) × (b ≡ true)
and_rest true b h = (refl, h)
and_rest false b h = absurd cc

and_fails : (a b : Bool) → a ≡ true → (a && b) ≡ false → b ≡ false
and_fails true b e h = h
and_fails false b e h = absurd cc

or_rest : (a b : Bool) → a ≡ false → (a || b) ≡ true → b ≡ true
or_rest true b e h = absurd cc
or_rest false b e h = h

or_fails : (a b : Bool) → (a || b) ≡ false → (a ≡ false) × (b ≡ false)
or_fails true b h = absurd cc
or_fails false b h = (refl, h)

or_none : (a b : Bool) → a ≡ false → b ≡ false → (a || b) ≡ false
or_none true b e h = absurd cc
or_none false b e h = h

found_here : {X : Type 0} (v : Bool) (a x : X) (o : Option X) → v ≡ true → cond v (Some a) o ≡ Some x → a ≡ x
found_here {X} true a x o e h = cc
found_here false a x o e h = absurd cc

found_later : {X : Type 0} (v : Bool) (a : X) (o p : Option X) → v ≡ false → cond v (Some a) o ≡ p → o ≡ p
found_later true a o p e h = absurd cc
found_later false a o p e h = h

not_found : {X : Type 0} (v : Bool) (a : X) (o : Option X) → v ≡ true → cond v (Some a) o ≡ None → ⊥
not_found true a o e h = cc
not_found false a o e h = cc

all_true : {A B : Type 0} (R : A → B → Type 0) (t : A → Bool) (Q : B → Type 0) → Tells R t Q → (xs : List A) (ys : List B) → AllZip R xs ys → list_all t xs ≡ true → All Q ys
all_true R t Q s [] [] z h = All-nil Q
all_true R t Q s [] (b ∷ ys) z h = absurd z
all_true R t Q s (a ∷ xs) [] z h = absurd z
all_true R t Q s (a ∷ xs) (b ∷ ys) z h = let w = and_rest (t a) (list_all t xs) h in All-cons Q b ys (s.passes a b z.0 w.0) (all_true R t Q s xs ys z.1 w.1)

all_false : {A B : Type 0} (R : A → B → Type 0) (t : A → Bool) (Q : B → Type 0) → Tells R t Q → (xs : List A) (ys : List B) → AllZip R xs ys → list_all t xs ≡ false → All Q ys → ⊥
all_false R t Q s [] [] z h a = cc
all_false R t Q s [] (b ∷ ys) z h a = z
all_false R t Q s (x ∷ xs) [] z h a = z
all_false R t Q s (x ∷ xs) (b ∷ ys) z h a = elim (test_of (t x)) [
  | inl is ↦ all_false R t Q s xs ys z.1 (and_fails (t x) (list_all t xs) is h) (All-tail Q b ys a)
  | inr is ↦ s.fails x b z.0 is (All-head Q b ys a)
]

pub tells_all : {A B : Type 0} (R : A → B → Type 0) (t : A → Bool) (Q : B → Type 0) → Tells R t Q → Tells (AllZip R) (list_all t) (All Q)
tells_all R t Q s = record { passes = λ xs ys z h. all_true R t Q s xs ys z h; fails = λ xs ys z h a. all_false R t Q s xs ys z h a }

pub any_true : {A B : Type 0} (R : A → B → Type 0) (t : A → Bool) (Q : B → Type 0) → Tells R t Q → (xs : List A) (ys : List B) → AllZip R xs ys → list_any t xs ≡ true → (y : B) × Contains ys y × Q y
any_true R t Q s [] ys z h = absurd cc
any_true R t Q s (a ∷ xs) [] z h = absurd z
any_true R t Q s (a ∷ xs) (b ∷ ys) z h = elim (test_of (t a)) [
  | inl is ↦ (b, (zero, omega arith, refl), s.passes a b z.0 is)
  | inr is ↦ (let w = any_true R t Q s xs ys z.1 (or_rest (t a) (list_any t xs) is h) in let c = w.1 in (w.0, (suc c.0, (let l = c.1 in omega arith), c.2), w.2))
]

any_at : {A B : Type 0} (R : A → B → Type 0) (t : A → Bool) (Q : B → Type 0) → Tells R t Q → (xs : List A) (ys : List B) → AllZip R xs ys → list_any t xs ≡ false
    → (y : B) (k : ℕ) → k < length ys → get_or ys k y ≡ y → Q y → ⊥
any_at R t Q s xs [] z h y k lt is q = omega arith
any_at R t Q s [] (b ∷ ys) z h y k lt is q = z
any_at {A} {B} R t Q s (a ∷ xs) (b ∷ ys) z h y zero lt is q = s.fails a b z.0 (or_fails (t a) (list_any t xs) h).0 (subst Q (sym is) q)
any_at R t Q s (a ∷ xs) (b ∷ ys) z h y (suc k) lt is q = any_at R t Q s xs ys z.1 (or_fails (t a) (list_any t xs) h).1 y k (omega arith) is q

pub any_false : {A B : Type 0} (R : A → B → Type 0) (t : A → Bool) (Q : B → Type 0) → Tells R t Q → (xs : List A) (ys : List B) → AllZip R xs ys → list_any t xs ≡ false
    → (y : B) → Contains ys y → Q y → ⊥
any_false R t Q s xs ys z h y c q = any_at R t Q s xs ys z h y c.0 c.1 c.2 q

-- the first that passes is the partner of the first with the fact
pub first_found : {A B : Type 0} (R : A → B → Type 0) (t : A → Bool) (Q : B → Type 0) → Tells R t Q → (xs : List A) (ys : List B) → AllZip R xs ys
    → (x : A) → find t xs ≡ Some x → (y : B) × R x y × First Q ys y
first_found R t Q s [] ys z x h = absurd cc
first_found R t Q s (a ∷ xs) [] z x h = absurd z
first_found {A} {B} R t Q s (a ∷ xs) (b ∷ ys) z x h = elim (test_of (t a)) [
  | inl is ↦ (b, subst (λ (w : A). R w b) (found_here (t a) a x (find t xs) is h) z.0, inl (s.passes a b z.0 is, refl))
  | inr is ↦ (let w = first_found R t Q s xs ys z.1 x (found_later (t a) a (find t xs) (Some x) is h) in (w.0, w.1, inr (s.fails a b z.0 is, w.2)))
]

-- where none is found, none passes
pub none_found : {A : Type 0} (t : A → Bool) (xs : List A) → find t xs ≡ None → list_any t xs ≡ false
none_found t [] h = refl
none_found t (a ∷ xs) h = elim (test_of (t a)) [
  | inl is ↦ absurd (not_found (t a) a (find t xs) is h)
  | inr is ↦ or_none (t a) (list_any t xs) is (none_found t xs (found_later (t a) a (find t xs) None is h))
]

-- an element with the fact, and none before it, is the first
pub first_at : {X : Type 0} (P : X → Type 0) (xs : List X) (k : ℕ) (x : X) → k < length xs → get_or xs k x ≡ x → P x
    → ((j : ℕ) → j < k → P (get_or xs j x) → ⊥) → First P xs x
first_at P [] k x lt is p first = omega arith
first_at {X} P (a ∷ xs) zero x lt is p first = inl (subst P (sym is) p, sym is)
first_at P (a ∷ xs) (suc k) x lt is p first = inr (first zero (omega arith), first_at P xs k x (omega arith) is p (λ j l. first (suc j) (omega arith)))

-- the first with a fact has it, and stands in the list
pub first_has : {X : Type 0} (P : X → Type 0) (xs : List X) (x : X) → First P xs x → Contains xs x × P x
first_has P [] x f = absurd f
first_has {X} P (a ∷ xs) x f = elim f [
  | inl here ↦ ((zero, omega arith, sym here.1), subst P (sym here.1) here.0)
  | inr there ↦ (let w = first_has P xs x there.1 in let c = w.0 in ((suc c.0, (let l = c.1 in omega arith), c.2), w.1))
]
