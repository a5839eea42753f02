-- Taking items from the top, one after another.
use Rattle.std.proofs.Common.{◌≡◌, ℕ, zero, suc, ◌+◌, ◌<◌, List, [], ◌∷◌, ◌++◌, length, take, drop, ap, arith, add-one, length-drop}

taken-suc : {T : Type 0} (xs : List T) (k : ℕ) (x : T) (more : List T) → drop k xs ≡ x ∷ more
    → (take (suc k) xs ≡ take k xs ++ x ∷ []) × (drop (suc k) xs ≡ more)
taken-suc [] zero x more e = cc
taken-suc [] (suc k) x more e = cc
taken-suc (y ∷ ys) zero x more e = (cc, cc)
taken-suc (y ∷ ys) (suc k) x more e = let h = taken-suc ys k x more e in (ap (λ zs. y ∷ zs) h.0, h.1)

-- one more item from the top
pub taken-more : {T : Type 0} (xs : List T) (k : ℕ) (x : T) (more : List T) → drop k xs ≡ x ∷ more
    → (take (k + 1) xs ≡ take k xs ++ x ∷ []) × (drop (k + 1) xs ≡ more)
taken-more xs k x more e = rw add-one (taken-suc xs k x more e)

pub some-left : {T : Type 0} (xs : List T) (k : ℕ) → k < length xs → drop k xs ≡ [] → ⊥
some-left xs k lt e = let h : length (drop k xs) ≡ 0 = ap length e in omega (arith, length-drop k xs)
