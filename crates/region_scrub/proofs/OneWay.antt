-- Declarations are set aside in one way.
use Rattle.std.proofs.Common.{◌≡◌, ℕ, zero, suc, ◌<◌, List, [], ◌∷◌, length, refl, sym, ◌∙◌, subst, inl, inr, arith, ◌⊎◌}
use Rattle.std.specs.Prelude.{Option, Some, None, slice_set}
use Rattle.std.specs.List.{slice_get}
use Rattle.std.proofs.lemmas.Option.{get_or_from_slice_get}
use Rattle.region_tree.specs.declared.decl.RegionDecl.{RegionDecl}
use Rattle.region_tree.specs.Faults.{AllGood, IsGood, DeclFault, FaultAt}
use Rattle.region_scrub.specs.declared.fault.RegionFault.{RegionFault}
use Rattle.region_scrub.specs.declared.fault.RegionFault.TheVariants as fault
use Rattle.region_scrub.specs.Clearing.{left, left_before, error_of, IsFirstFaulty, ClearsIn}
use Rattle.region_scrub.proofs.Kept.{before_same}

is_bad : (ds : List RegionDecl) (p : ℕ) (d : RegionDecl) (why : RegionFault) (name : List ℕ) → DeclFault ds p d (error_of why name) → IsGood ds p d → ⊥
is_bad ds p d fault.Repeated name f good = f.1 good.0
is_bad ds p d fault.UnknownParent name f good = let none = f.2 in let some = good.1 in cc
is_bad ds p d fault.Mixed name f good = let kind = f.2.1 in let some = good.1 in f.2.2 (cc)
is_bad ds p d fault.Cycle name f good = f.3 good.2

one_fault : (ds : List RegionDecl) (p : ℕ) (d : RegionDecl) (a b : RegionFault) (n m : List ℕ) → DeclFault ds p d (error_of a n) → DeclFault ds p d (error_of b m) → a ≡ b
one_fault ds p d fault.Repeated fault.Repeated n m f g = refl
one_fault ds p d fault.Repeated fault.UnknownParent n m f g = absurd (f.1 g.1)
one_fault ds p d fault.Repeated fault.Mixed n m f g = absurd (f.1 g.1)
one_fault ds p d fault.Repeated fault.Cycle n m f g = absurd (f.1 g.1)
one_fault ds p d fault.UnknownParent fault.Repeated n m f g = absurd (g.1 f.1)
one_fault ds p d fault.UnknownParent fault.UnknownParent n m f g = refl
one_fault ds p d fault.UnknownParent fault.Mixed n m f g = let none = f.2 in let some = g.2.1 in absurd (cc)
one_fault ds p d fault.UnknownParent fault.Cycle n m f g = let none = f.2 in let some = g.2 in absurd (cc)
one_fault ds p d fault.Mixed fault.Repeated n m f g = absurd (g.1 f.1)
one_fault ds p d fault.Mixed fault.UnknownParent n m f g = let none = g.2 in let some = f.2.1 in absurd (cc)
one_fault ds p d fault.Mixed fault.Mixed n m f g = refl
one_fault ds p d fault.Mixed fault.Cycle n m f g = let kind = f.2.1 in let some = g.2 in absurd (f.2.2 (cc))
one_fault ds p d fault.Cycle fault.Repeated n m f g = absurd (g.1 f.1)
one_fault ds p d fault.Cycle fault.UnknownParent n m f g = let none = g.2 in let some = f.2 in absurd (cc)
one_fault ds p d fault.Cycle fault.Mixed n m f g = let kind = g.2.1 in let some = f.2 in absurd (g.2.2 (cc))
one_fault ds p d fault.Cycle fault.Cycle n m f g = refl

compared : (i j : ℕ) → (i < j) ⊎ ((j < i) ⊎ (i ≡ j))
compared i j = grind arith

-- there is one first faulty declaration, and it has one fault
fault_same : (ds : List RegionDecl) (p q : ℕ) (a b : RegionFault) (n m : List ℕ) → FaultAt ds p (error_of a n) → FaultAt ds q (error_of b m) → (p ≡ q) × (a ≡ b)
fault_same ds p q a b n m (d, get_d, good_p, f) (e, get_e, good_q, g) =
    elim (compared p q) as (λ _. (p ≡ q) × (a ≡ b)) [
      | inl less ↦ absurd (is_bad ds p d a n f (good_q p d less get_d))
      | inr more ↦ elim more as (λ _. (p ≡ q) × (a ≡ b)) [
        | inl greater ↦ absurd (is_bad ds q e b m g (good_p q e greater get_e))
        | inr same ↦
            let there : slice_get ds p ≡ Some e = subst (λ (x : ℕ). slice_get ds x ≡ Some e) (sym same) get_e in
            let one : e ≡ d = cc in
            (same, one_fault ds p d a b n m f (subst (λ (x : RegionDecl). DeclFault ds p x (error_of b m)) one (subst (λ (x : ℕ). DeclFault ds x e (error_of b m)) (sym same) g)))
      ]
    ]

got_within : (xs : List RegionDecl) (i : ℕ) (d : RegionDecl) → slice_get xs i ≡ Some d → i < length xs
got_within [] i d get = absurd (cc)
got_within (x ∷ xs) zero d get = omega arith
got_within (x ∷ xs) (suc i) d get = omega (arith, got_within xs i d get)

all_good : (ds : List RegionDecl) (p : ℕ) (a : RegionFault) (n : List ℕ) → AllGood ds (length ds) → FaultAt ds p (error_of a n) → ⊥
all_good ds p a n good (d, get, before, f) = is_bad ds p d a n f (good p d (got_within ds p d get) get)

next_same : (declared : List RegionDecl) (aside : List (Option RegionFault)) (i j : ℕ) (a b : RegionFault) → IsFirstFaulty declared aside i a → IsFirstFaulty declared aside j b
    → (i ≡ j) × (a ≡ b)
next_same declared aside i j a b f g =
    let same = fault_same (left declared aside) (left_before aside i) (left_before aside j) a b f.decl.name g.decl.name f.first g.first in
    (before_same aside i j (get_or_from_slice_get aside i None (Some fault.Repeated) f.stands) (get_or_from_slice_get aside j None (Some fault.Repeated) g.stands) same.0, same.1)

pub clears_same : (n k : ℕ) (declared : List RegionDecl) (before a b : List (Option RegionFault)) → ClearsIn n declared before a → ClearsIn k declared before b → a ≡ b
clears_same zero zero declared before a b one other = one.1 ∙ sym other.1
clears_same zero (suc k) declared before a b one (i, why, first, rest) = absurd (all_good (left declared before) (left_before before i) why first.decl.name one.0 first.first)
clears_same (suc n) zero declared before a b (i, why, first, rest) other = absurd (all_good (left declared before) (left_before before i) why first.decl.name other.0 first.first)
clears_same (suc n) (suc k) declared before a b (i, why, first, rest) (j, why', first', rest') =
    let same = next_same declared before i j why why' first first' in
    clears_same n k declared (slice_set before i (Some why)) a b rest
    (subst (λ (x : ℕ). ClearsIn k declared (slice_set before x (Some why)) b) (sym same.0)
    (subst (λ (x : RegionFault). ClearsIn k declared (slice_set before j (Some x)) b) (sym same.1) rest'))
