-- Lists of which some elements are set aside, and the numbers of the elements that are kept.
use Rattle.std.proofs.Common.{◌≡◌, ℕ, zero, suc, ◌+◌, ◌<◌, ◌≤◌, List, [], ◌∷◌, length, get_or, map, refl, sym, ◌∙◌, ap, add-zero, inl, inr, arith, Bool, true, false, cond}
use Rattle.std.specs.Prelude.{Option, Some, None}
use Rattle.std.specs.List.{position_from, slice_get}
use Rattle.std.proofs.lemmas.Bool.{cases_lt, cases_order}
use Rattle.std.proofs.lemmas.Option.{same_Some}
use Rattle.region_scrub.specs.declared.fault.RegionFault.{RegionFault}
use Rattle.region_scrub.specs.Clearing.{left_before}
use Rattle.region_scrub.specs.Numbers.{IsLeft}

-- the elements that are not set aside
abbrev pub kept : {X : Type 0} → List X → List (Option RegionFault) → List X
kept [] marks = []
kept (x ∷ xs) [] = x ∷ xs
kept (x ∷ xs) (None ∷ more) = x ∷ kept xs more
kept (x ∷ xs) (Some why ∷ more) = kept xs more

-- a kept element stands among those kept at the number of those before it
pub kept_at : {X : Type 0} (xs : List X) (marks : List (Option RegionFault)) (k : ℕ) → IsLeft marks k
    → slice_get (kept xs marks) (left_before marks k) ≡ slice_get xs k
kept_at [] marks k l = refl
kept_at (x ∷ xs) [] k l = absurd (cc)
kept_at (x ∷ xs) (None ∷ more) zero l = refl
kept_at (x ∷ xs) (None ∷ more) (suc k) l = kept_at xs more k l
kept_at (x ∷ xs) (Some why ∷ more) zero l = absurd (cc)
kept_at (x ∷ xs) (Some why ∷ more) (suc k) l = kept_at xs more k l

-- each of the kept elements is one of the list
pub kept_from : {X : Type 0} (xs : List X) (marks : List (Option RegionFault)) (p : ℕ) (x : X) → length xs ≤ length marks
    → slice_get (kept xs marks) p ≡ Some x → (j : ℕ) × IsLeft marks j × (left_before marks j ≡ p) × (slice_get xs j ≡ Some x)
kept_from [] marks p x long e = absurd (cc)
kept_from (y ∷ xs) [] p x long e = absurd (omega arith)
kept_from (y ∷ xs) (None ∷ more) zero x long e = (0, refl, refl, e)
kept_from (y ∷ xs) (None ∷ more) (suc p) x long e = let r = kept_from xs more p x (omega arith) e in (suc r.0, r.1, ap suc r.2, r.3)
kept_from (y ∷ xs) (Some why ∷ more) p x long e = let r = kept_from xs more p x (omega arith) e in (suc r.0, r.1, r.2, r.3)

-- what is kept is there
pub kept_there : {X : Type 0} (xs : List X) (marks : List (Option RegionFault)) (k : ℕ) → length marks ≤ length xs → IsLeft marks k
    → (x : X) × (slice_get xs k ≡ Some x)
kept_there xs [] k long l = absurd (cc)
kept_there [] (a ∷ more) k long l = absurd (omega arith)
kept_there (x ∷ xs) (a ∷ more) zero long l = (x, refl)
kept_there (x ∷ xs) (a ∷ more) (suc k) long l = kept_there xs more k (omega arith) l

-- a later number is no lower among those kept
pub before_rises : (marks : List (Option RegionFault)) (j k : ℕ) → j ≤ k → left_before marks j ≤ left_before marks k
before_rises [] j k le = omega arith
before_rises (None ∷ more) zero zero le = omega arith
before_rises (Some why ∷ more) zero zero le = omega arith
before_rises (None ∷ more) (suc j) zero le = absurd (omega arith)
before_rises (Some why ∷ more) (suc j) zero le = absurd (omega arith)
before_rises (None ∷ more) zero (suc k) le = omega arith
before_rises (Some why ∷ more) zero (suc k) le = omega arith
before_rises (None ∷ more) (suc j) (suc k) le = omega (arith, before_rises more j k (omega arith))
before_rises (Some why ∷ more) (suc j) (suc k) le = before_rises more j k (omega arith)

-- a kept element is before all later ones
before_less : (marks : List (Option RegionFault)) (j k : ℕ) → IsLeft marks j → j < k → left_before marks j < left_before marks k
before_less [] j k l less = absurd (cc)
before_less (Some why ∷ more) zero k l less = absurd (cc)
before_less (None ∷ more) zero zero l less = absurd (omega arith)
before_less (None ∷ more) zero (suc k) l less = omega arith
before_less (None ∷ more) (suc j) zero l less = absurd (omega arith)
before_less (Some why ∷ more) (suc j) zero l less = absurd (omega arith)
before_less (None ∷ more) (suc j) (suc k) l less = omega (arith, before_less more j k l (omega arith))
before_less (Some why ∷ more) (suc j) (suc k) l less = before_less more j k l (omega arith)

-- two kept elements have two numbers
pub before_same : (marks : List (Option RegionFault)) (j k : ℕ) → IsLeft marks j → IsLeft marks k → left_before marks j ≡ left_before marks k → j ≡ k
before_same marks j k a b same =
    elim (cases_order j k) [
      | inl e ↦ e
      | inr either ↦ elim either [
        | inl less ↦ absurd (omega (arith, before_less marks j k a less))
        | inr less ↦ absurd (omega (arith, before_less marks k j b less))
      ]
    ]

-- a lower number among those kept is that of an earlier element
pub before_lower : (marks : List (Option RegionFault)) (j k : ℕ) → left_before marks j < left_before marks k → j < k
before_lower marks j k less =
    elim (cases_lt j k) [
      | inl e ↦ e
      | inr le ↦ absurd (omega (arith, before_rises marks k j le))
    ]

-- the first element that passes
pub position_is : {X : Type 0} (t : X → Bool) (i p : ℕ) (xs : List X) (x : X) → slice_get xs p ≡ Some x → t x ≡ true
    → ((r : ℕ) (y : X) → r < p → slice_get xs r ≡ Some y → t y ≡ false) → position_from t i xs ≡ Some (i + p)
position_is t i p [] x e passes below = absurd (cc)
position_is t i zero (y ∷ xs) x e passes below =
    let test : t y ≡ true = ap t (same_Some y x e) ∙ passes in
    ap (λ (b : Bool). cond b (Some i) (position_from t (i + 1) xs)) test ∙ ap (λ (z : ℕ). Some z) (sym (add-zero i))
position_is t i (suc p) (y ∷ xs) x e passes below =
    let test : t y ≡ false = below zero y (omega arith) refl in
    let same : (i + 1) + p ≡ i + suc p = omega arith in
    ap (λ (b : Bool). cond b (Some i) (position_from t (i + 1) xs)) test
    ∙ position_is t (i + 1) p xs x e passes (λ r z less at. below (suc r) z (omega arith) at)
    ∙ ap (λ (z : ℕ). Some z) same

-- no element passes
pub position_none : {X : Type 0} (t : X → Bool) (i : ℕ) (xs : List X) → ((r : ℕ) (y : X) → slice_get xs r ≡ Some y → t y ≡ false)
    → position_from t i xs ≡ None
position_none t i [] misses = refl
position_none t i (y ∷ xs) misses =
    ap (λ (b : Bool). cond b (Some i) (position_from t (i + 1) xs)) (misses zero y refl) ∙ position_none t (i + 1) xs (λ r z at. misses (suc r) z at)

-- the element that is found passes
pub position_passes : {X : Type 0} (t : X → Bool) (i k : ℕ) (xs : List X) → position_from t i xs ≡ Some k
    → (p : ℕ) × (x : X) × (k ≡ i + p) × (slice_get xs p ≡ Some x) × (t x ≡ true)
position_passes t i k [] e = absurd (cc)
position_passes {X} t i k (y ∷ xs) e = go (t y) refl (λ found. position_passes t (i + 1) k xs found) e
  where
    go : (b : Bool) → t y ≡ b
        → (position_from t (i + 1) xs ≡ Some k → (p : ℕ) × (x : X) × (k ≡ (i + 1) + p) × (slice_get xs p ≡ Some x) × (t x ≡ true))
        → cond b (Some i) (position_from t (i + 1) xs) ≡ Some k
        → (p : ℕ) × (x : X) × (k ≡ i + p) × (slice_get (y ∷ xs) p ≡ Some x) × (t x ≡ true)
    go true test later found = let same : i ≡ k = same_Some i k found in (zero, y, omega arith, refl, test)
    go false test later found = let r = later found in (suc r.0, r.1, omega (arith, r.2), r.3, r.4)

-- where none is found, no element passes
pub position_misses : {X : Type 0} (t : X → Bool) (i : ℕ) (xs : List X) → position_from t i xs ≡ None → (r : ℕ) (y : X) → slice_get xs r ≡ Some y → t y ≡ false
position_misses t i [] e r y at = absurd (cc)
position_misses t i (x ∷ xs) e r y at = go (t x) refl (λ found r at. position_misses t (i + 1) xs found r y at) e r at
  where
    go : (b : Bool) → t x ≡ b → (position_from t (i + 1) xs ≡ None → (r : ℕ) → slice_get xs r ≡ Some y → t y ≡ false)
        → cond b (Some i) (position_from t (i + 1) xs) ≡ None → (r : ℕ) → slice_get (x ∷ xs) r ≡ Some y → t y ≡ false
    go true test later found r at = absurd (cc)
    go false test later found zero at = ap t (sym (same_Some x y at)) ∙ test
    go false test later found (suc r) at = later found r at

-- an element of a list through a function
pub read_at : {X : Type 0} (f : X → Option ℕ) (xs : List X) (j : ℕ) (x : X) → slice_get xs j ≡ Some x → get_or (map f xs) j None ≡ f x
read_at f [] j x e = absurd (cc)
read_at f (y ∷ xs) zero x e = ap f (same_Some y x e)
read_at f (y ∷ xs) (suc j) x e = read_at f xs j x e

-- an element that a function makes comes from one of the list
pub read_from : {X : Type 0} (f : X → Option ℕ) (xs : List X) (j g : ℕ) → get_or (map f xs) j None ≡ Some g → (x : X) × (slice_get xs j ≡ Some x) × (f x ≡ Some g)
read_from f [] j g e = absurd (cc)
read_from f (y ∷ xs) zero g e = (y, refl, e)
read_from f (y ∷ xs) (suc j) g e = read_from f xs j g e
