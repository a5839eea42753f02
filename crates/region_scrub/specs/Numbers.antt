-- What is known of regions by their numbers while declarations are set aside. Numbers are those of all
-- declared regions; a number that no region has counts as set aside.
use Rattle.std.specs.Prelude.{◌≡◌, ◌≢◌, ℕ, ◌≤◌, List, Option, Some, None, Bool, length, map}
use Rattle.std.specs.List.{slice_get, slice_index_or}
use Rattle.region_tree.specs.declared.decl.RegionDecl.{RegionDecl}
use Rattle.region_tree.specs.Chains.{parent_at, IsRooted}
use Rattle.region_tree.specs.Regions.{number_of, region_names}
use Rattle.region_scrub.specs.declared.fault.RegionFault.{RegionFault}
use Rattle.region_scrub.specs.declared.fault.RegionFault.TheVariants as fault

abbrev pub fault_at : List (Option RegionFault) → ℕ → Option RegionFault
fault_at faults k = slice_index_or faults k (Some fault.Repeated)

-- the region is there and not set aside
abbrev pub IsLeft : List (Option RegionFault) → ℕ → Type 0
IsLeft faults k = fault_at faults k ≡ None

-- the number that the name of each region has
abbrev pub own_numbers : List RegionDecl → List (Option ℕ)
own_numbers declared = map (number_of declared) (region_names declared)

abbrev pub key_at : List (Option ℕ) → ℕ → Option ℕ
key_at keys k = slice_index_or keys k None

-- the first region that is left of the names' regions, by the number that the name has
pub record Heads (own : List (Option ℕ)) (faults : List (Option RegionFault)) (heads : List (Option ℕ)) : Type 0 where
  pub long : length heads ≡ length own
  pub left : (g k : ℕ) → key_at heads g ≡ Some k → IsLeft faults k
  pub owns : (g k : ℕ) → key_at heads g ≡ Some k → key_at own k ≡ Some g
  pub first : (g k j : ℕ) → key_at heads g ≡ Some k → IsLeft faults j → key_at own j ≡ Some g → k ≤ j
  pub none : (g j : ℕ) → key_at heads g ≡ None → IsLeft faults j → key_at own j ≢ Some g

abbrev pub head_at : List (Option ℕ) → Option ℕ → Option ℕ
head_at heads None = None
head_at heads (Some g) = key_at heads g

abbrev pub link_if : Option RegionFault → Option ℕ → Option ℕ
link_if None head = head
link_if (Some why) head = None

-- the parents of the regions that are left: `up` has the number that the name of each one's parent has
pub record Links (up heads : List (Option ℕ)) (faults : List (Option RegionFault)) (parents : List (Option ℕ)) : Type 0 where
  pub long : length parents ≡ length up
  pub links : (k : ℕ) → parent_at parents k ≡ link_if (fault_at faults k) (head_at heads (key_at up k))

-- whether a region is static
abbrev pub kind_at : List Bool → ℕ → Option Bool
kind_at kinds k = slice_get kinds k

-- a region without fault
pub record IsSound (kinds : List Bool) (own heads parents : List (Option ℕ)) (k : ℕ) : Type 0 where
  pub first : head_at heads (key_at own k) ≡ Some k
  pub parent : ℕ
  pub linked : parent_at parents k ≡ Some parent
  pub kind : kind_at kinds parent ≡ kind_at kinds k
  pub rooted : IsRooted parents k

-- a region with this fault
abbrev pub HasFault : List Bool → List (Option ℕ) → List (Option ℕ) → List (Option ℕ) → ℕ → RegionFault → Type 0
HasFault kinds own heads parents k fault.Repeated = head_at heads (key_at own k) ≢ Some k
HasFault kinds own heads parents k fault.UnknownParent = (head_at heads (key_at own k) ≡ Some k) × (parent_at parents k ≡ None)
HasFault kinds own heads parents k fault.Mixed =
    (head_at heads (key_at own k) ≡ Some k) × ((p : ℕ) × (parent_at parents k ≡ Some p) × (kind_at kinds p ≢ kind_at kinds k))
HasFault kinds own heads parents k fault.Cycle =
    (head_at heads (key_at own k) ≡ Some k) × ((p : ℕ) × (parent_at parents k ≡ Some p) × (kind_at kinds p ≡ kind_at kinds k)) × ¬ (IsRooted parents k)
