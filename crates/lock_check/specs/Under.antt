-- Which region is under which, as a test: a climb from the one to its parents comes to the other. As many
-- steps as there are regions are enough, since a chain that is longer comes to one of them twice.
use Rattle.std.specs.Prelude.{ℕ, zero, suc, ◌==◌, ◌||◌, Bool, false, List, Option, Some, None, length}
use Rattle.region_tree.specs.declared.decl.RegionDecl.{RegionDecl}
use Rattle.region_tree.specs.Chains.{parent_at}
use Rattle.region_tree.specs.Regions.{number_of, parents_of}
use Rattle.views.specs.Face.{Face}
use Rattle.views.specs.Looks.{regions_in, field_region_in}

abbrev pub climbs_on : Option ℕ → (ℕ → Bool) → Bool
climbs_on None comes = false
climbs_on (Some x) comes = comes x

-- from a region a climb of so many steps comes to b
abbrev pub comes_to : List (Option ℕ) → (steps : ℕ) → (b a : ℕ) → Bool
comes_to parents zero b a = a == b
comes_to parents (suc n) b a = (a == b) || climbs_on (parent_at parents a) (λ x. comes_to parents n b x)

abbrev pub is_under : List (Option ℕ) → (a b : ℕ) → Bool
is_under parents a b = comes_to parents (length parents) b a

abbrev pub number_is_under : List RegionDecl → Option ℕ → Option ℕ → Bool
number_is_under declared (Some a) (Some b) = is_under (parents_of declared) a b
number_is_under declared a b = false

abbrev pub name_is_under : Option (List RegionDecl) → Option (List ℕ) → List ℕ → Bool
name_is_under (Some declared) (Some own) region = number_is_under declared (number_of declared own) (number_of declared region)
name_is_under declared own region = false

-- the first field of the name is there, and its own region is under the region
abbrev pub field_is_under : Option Face → (field region : List ℕ) → Bool
field_is_under shown field region = name_is_under (regions_in shown) (field_region_in shown field) region
