-- What holds of each item of a list.
use Rattle.std.proofs.Common.{◌≡◌, ℕ, zero, suc, List, [], ◌∷◌, ◌++◌, Some, slice_get, slice_set, subst}
use Rattle.core_laws.specs.Places.{Each}

pub each-get : {A : Type 0} (P : A → Type 0) (xs : List A) (i : ℕ) (x : A) → slice_get xs i ≡ Some x → Each P xs → P x
each-get P [] i x e h = absurd (let no : ⊥ = cc in no)
each-get P (y ∷ ys) zero x e h = let same : y ≡ x = cc in subst P same h.0
each-get P (y ∷ ys) (suc i) x e h = each-get P ys i x e h.1

pub each-set : {A : Type 0} (P : A → Type 0) (xs : List A) (i : ℕ) (x : A) → P x → Each P xs → Each P (slice_set xs i x)
each-set P [] i x p h = tt
each-set P (y ∷ ys) zero x p h = (p, h.1)
each-set P (y ∷ ys) (suc i) x p h = (h.0, each-set P ys i x p h.1)

pub each-append : {A : Type 0} (P : A → Type 0) (xs ys : List A) → Each P xs → Each P ys → Each P (xs ++ ys)
each-append P [] ys h k = k
each-append P (x ∷ xs) ys h k = (h.0, each-append P xs ys h.1 k)

pub each-map : {A : Type 0} (P Q : A → Type 0) (xs : List A) → ((x : A) → P x → Q x) → Each P xs → Each Q xs
each-map P Q [] f h = tt
each-map P Q (x ∷ xs) f h = (f x h.0, each-map P Q xs f h.1)
