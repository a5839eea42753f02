-- What a map of first places finds is what a search of the list finds.
use Rattle.std.proofs.Common.{◌≡◌, ℕ, zero, suc, ◌+◌, ◌-◌, ◌<◌, ◌≤◌, List, [], ◌∷◌, length, refl, sym, ◌∙◌, ap, subst, arith, Bool, true, false, cond}
use mathlib.Core.Bool.{◌||◌}
use Rattle.std.specs.Prelude.{Option, Some, None, find, is_some, option_and_then}
use Rattle.std.specs.List.{list_any, position_from, slice_get}
use Rattle.views.specs.Indexes.{FirstsFrom}

some_same : (a b : ℕ) → Some a ≡ Some b → a ≡ b
some_same a b e = cc

less_one : (i k : ℕ) → i + 1 ≤ k → k - i ≡ suc (k - (i + 1))
less_one i k h = omega arith

position-some : {X : Type 0} (t : X → Bool) (i k : ℕ) (xs : List X) → position_from t i xs ≡ Some k → (i ≤ k) × (slice_get xs (k - i) ≡ find t xs)
position-some t i k [] e = absurd (cc)
position-some {X} t i k (x ∷ xs) e = go (t x) (position-some t (i + 1) k xs) e
  where
    here : (n : ℕ) → n ≡ 0 → slice_get (x ∷ xs) n ≡ Some x
    here zero e = refl
    here (suc n) e = absurd (omega arith)

    there : (n m : ℕ) → n ≡ suc m → slice_get (x ∷ xs) n ≡ slice_get xs m
    there n m e = ap (slice_get (x ∷ xs)) e

    go : (b : Bool) → (position_from t (i + 1) xs ≡ Some k → (i + 1 ≤ k) × (slice_get xs (k - (i + 1)) ≡ find t xs))
        → cond b (Some i) (position_from t (i + 1) xs) ≡ Some k → (i ≤ k) × (slice_get (x ∷ xs) (k - i) ≡ cond b (Some x) (find t xs))
    go true later found = let same : i ≡ k = some_same i k found in (omega arith, here (k - i) (omega arith))
    go false later found = let w = later found in (omega (arith, w.0), there (k - i) (k - (i + 1)) (less_one i k w.0) ∙ w.1)

position-none : {X : Type 0} (t : X → Bool) (i : ℕ) (xs : List X) → position_from t i xs ≡ None → find t xs ≡ None
position-none t i [] e = refl
position-none {X} t i (x ∷ xs) e = go (t x) (position-none t (i + 1) xs) e
  where
    go : (b : Bool) → (position_from t (i + 1) xs ≡ None → find t xs ≡ None)
        → cond b (Some i) (position_from t (i + 1) xs) ≡ None → cond b (Some x) (find t xs) ≡ None
    go true later found = absurd (cc)
    go false later found = later found

pub is_some-position : {X : Type 0} (t : X → Bool) (i : ℕ) (xs : List X) → is_some (position_from t i xs) ≡ list_any t xs
is_some-position t i [] = refl
is_some-position {X} t i (x ∷ xs) = go (t x) (is_some-position t (i + 1) xs)
  where
    go : (b : Bool) → is_some (position_from t (i + 1) xs) ≡ list_any t xs
        → is_some (cond b (Some i) (position_from t (i + 1) xs)) ≡ (b || list_any t xs)
    go true later = refl
    go false later = later

-- where the test passes at a place, a search finds that element
pub find_at : {X : Type 0} (t : X → Bool) (k : ℕ) (xs : List X) → position_from t 0 xs ≡ Some k → slice_get xs k ≡ find t xs
find_at t k xs e = let w = position-some t 0 k xs e in ap (slice_get xs) (let n : k ≡ k - 0 = omega arith in n) ∙ w.1

pub found_some : {K X : Type 0} (found : K → Option ℕ) (test : K → X → Bool) (xs : List X) (key : K) (k : ℕ)
    → FirstsFrom found test 0 xs → found key ≡ Some k → slice_get xs k ≡ find (test key) xs
found_some found test xs key k f e = find_at (test key) k xs (sym (f.firsts key) ∙ e)

pub found_none : {K X : Type 0} (found : K → Option ℕ) (test : K → X → Bool) (xs : List X) (key : K)
    → FirstsFrom found test 0 xs → found key ≡ None → find (test key) xs ≡ None
found_none found test xs key f e = position-none (test key) 0 xs (sym (f.firsts key) ∙ e)

pub found_any : {K X : Type 0} (found : K → Option ℕ) (test : K → X → Bool) (xs : List X) (key : K)
    → FirstsFrom found test 0 xs → is_some (found key) ≡ list_any (test key) xs
found_any found test xs key f = ap is_some (f.firsts key) ∙ is_some-position (test key) 0 xs

-- what stands at the place that a map has is what a search finds
pub found_is : {K X : Type 0} (found : K → Option ℕ) (test : K → X → Bool) (xs : List X) (key : K)
    → FirstsFrom found test 0 xs → option_and_then (slice_get xs) (found key) ≡ find (test key) xs
found_is {K} {X} found test xs key f = go (found key) (found_some found test xs key) (found_none found test xs key f)
  where
    go : (o : Option ℕ) → ((k : ℕ) → FirstsFrom found test 0 xs → o ≡ Some k → slice_get xs k ≡ find (test key) xs) → (o ≡ None → find (test key) xs ≡ None)
        → option_and_then (slice_get xs) o ≡ find (test key) xs
    go None some none = sym (none refl)
    go (Some k) some none = some k f refl

-- the same of a place that is known
pub place_is : {X : Type 0} (t : X → Bool) (xs : List X) (o : Option ℕ) → o ≡ position_from t 0 xs → option_and_then (slice_get xs) o ≡ find t xs
place_is t xs None e = sym (position-none t 0 xs (sym e))
place_is t xs (Some k) e = find_at t k xs (sym e)
