-- A map from names to numbers of regions.
use Rattle.std.specs.Prelude.{◌≡◌, ℕ, List, Option, Some, None, Bool, true, false, if◌then◌else◌}
use Rattle.std.specs.Option.{option_or}
use Rattle.std.specs.Ordering.{nat_cmp}
use Rattle.std.specs.Cmp.Lexicographic.{slice_cmp}
use Rattle.std.specs.Str.{bytes_eq}
use Rattle.std.specs.BTreeMap.{BTreeMap, get}
use Rattle.region_tree.specs.declared.decl.RegionDecl.{RegionDecl}
use Rattle.region_tree.specs.declared.decl.FieldPut.{FieldPut}
use Rattle.region_tree.specs.Regions.{number_of, place_of}

-- the number that the map has at the name
abbrev pub number_at : BTreeMap (List ℕ) ℕ → List ℕ → Option ℕ
number_at numbers name = get (slice_cmp nat_cmp) numbers name

-- the map has the regions' numbers
pub record Numbered (numbers : BTreeMap (List ℕ) ℕ) (declared : List RegionDecl) : Type 0 where
  pub numbered : (name : List ℕ) → number_at numbers name ≡ number_of declared name

-- a name that was not there has the number now, and all others are as before
pub record PutsFirst (old new : BTreeMap (List ℕ) ℕ) (name : List ℕ) (number : ℕ) : Type 0 where
  pub puts : (q : List ℕ) → number_at new q ≡ option_or (number_at old q) (if bytes_eq name q then Some number else None)

abbrev pub root_number : Bool → ℕ
root_number false = 0
root_number true = 1

-- the number of the written name, or of the root of the kind where none is written
abbrev pub number_found : BTreeMap (List ℕ) ℕ → Option (List ℕ) → Bool → Option ℕ
number_found numbers None is_static = Some (root_number is_static)
number_found numbers (Some name) is_static = number_at numbers name

-- the map has the regions of the fields
pub record Places (places : BTreeMap (List ℕ) ℕ) (declared : List RegionDecl) (puts : List FieldPut) : Type 0 where
  pub placed : (field : List ℕ) → number_at places field ≡ place_of declared puts field
