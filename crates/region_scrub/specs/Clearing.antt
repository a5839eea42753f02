-- Clears: faulty declarations are set aside, one after another, until those that are left have no fault.
use Rattle.std.specs.Prelude.{◌≡◌, ℕ, zero, suc, List, [], ◌∷◌, Option, Some, None, length, replicate, slice_set}
use Rattle.std.specs.List.{slice_get, slice_index_or}
use Rattle.region_tree.specs.declared.decl.RegionDecl.{RegionDecl}
use Rattle.region_tree.specs.declared.fault.RegionError.{RegionError}
use Rattle.region_tree.specs.declared.fault.RegionError.TheVariants as error
use Rattle.region_tree.specs.Faults.{AllGood, FaultAt}
use Rattle.region_scrub.specs.declared.fault.RegionFault.{RegionFault}
use Rattle.region_scrub.specs.declared.fault.RegionFault.TheVariants as fault

-- the declarations that are not set aside
abbrev pub left : List RegionDecl → List (Option RegionFault) → List RegionDecl
left [] aside = []
left (d ∷ ds) [] = d ∷ ds
left (d ∷ ds) (None ∷ more) = d ∷ left ds more
left (d ∷ ds) (Some why ∷ more) = left ds more

-- the fault for which declaration i is set aside, if it is
abbrev pub aside_at : List (Option RegionFault) → ℕ → Option RegionFault
aside_at aside i = slice_index_or aside i None

-- how many of the first i declarations are not set aside
abbrev pub left_before : List (Option RegionFault) → ℕ → ℕ
left_before [] i = 0
left_before (a ∷ more) zero = 0
left_before (None ∷ more) (suc i) = suc (left_before more i)
left_before (Some why ∷ more) (suc i) = left_before more i

-- the error of regions that says so
abbrev pub error_of : RegionFault → List ℕ → RegionError
error_of fault.Repeated name = error.Repeated name
error_of fault.UnknownParent name = error.UnknownParent name
error_of fault.Mixed name = error.Mixed name
error_of fault.Cycle name = error.Cycle name

-- declaration i is left, it is the first faulty one of those that are left, and this is its fault there
pub record IsFirstFaulty (declared : List RegionDecl) (aside : List (Option RegionFault)) (i : ℕ) (why : RegionFault) : Type 0 where
  pub decl : RegionDecl
  pub there : slice_get declared i ≡ Some decl
  pub stands : slice_get aside i ≡ Some None
  pub first : FaultAt (left declared aside) (left_before aside i) (error_of why decl.name)

-- so many declarations are set aside, and then those that are left have no fault
abbrev pub ClearsIn : ℕ → List RegionDecl → List (Option RegionFault) → List (Option RegionFault) → Type 0
ClearsIn zero declared before after = AllGood (left declared before) (length (left declared before)) × (after ≡ before)
ClearsIn (suc n) declared before after =
    (i : ℕ) × (why : RegionFault) × IsFirstFaulty declared before i why × ClearsIn n declared (slice_set before i (Some why)) after

-- Which declarations are set aside in the end, and why.
abbrev pub Clears : List RegionDecl → List (Option RegionFault) → Type 0
Clears declared after = (n : ℕ) × ClearsIn n declared (replicate (length declared) None) after
