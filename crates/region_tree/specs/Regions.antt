-- The regions of a class: the two roots and those that it declares, in order. A name finds the first
-- region that has it.
use Rattle.std.specs.Prelude.{ℕ, List, ◌∷◌, Option, Some, None, Bool, true, false, map, find, codes, option_and_then}
use Rattle.std.specs.List.{slice_get, position_from}
use Rattle.std.specs.Str.{bytes_eq}
use Rattle.region_tree.specs.declared.decl.RegionDecl.{RegionDecl}
use Rattle.region_tree.specs.declared.decl.FieldPut.{FieldPut}

-- the name of the root of a kind
abbrev pub root_name : Bool → List ℕ
root_name false = codes "Instance"
root_name true = codes "Static"

-- the written name, or the root of the kind where none is written
abbrev pub name_or_root : Option (List ℕ) → Bool → List ℕ
name_or_root None is_static = root_name is_static
name_or_root (Some name) is_static = name

abbrev pub parent_name : RegionDecl → List ℕ
parent_name decl = name_or_root decl.parent decl.is_static

abbrev pub field_region : FieldPut → List ℕ
field_region put = name_or_root put.region put.is_static

abbrev pub decl_name : RegionDecl → List ℕ
decl_name decl = decl.name

-- the names of all regions by their numbers
abbrev pub region_names : List RegionDecl → List (List ℕ)
region_names declared = codes "Instance" ∷ codes "Static" ∷ map decl_name declared

-- the number of the first region of the name
unfoldable pub number_of : List RegionDecl → List ℕ → Option ℕ
number_of declared name = position_from (λ n. bytes_eq n name) 0 (region_names declared)

abbrev pub parent_number : List RegionDecl → RegionDecl → Option ℕ
parent_number declared decl = number_of declared (parent_name decl)

-- the parents of all regions by their numbers; a root has none, and a parent that isn't there is none
abbrev pub parents_of : List RegionDecl → List (Option ℕ)
parents_of declared = None ∷ None ∷ map (parent_number declared) declared

abbrev pub decl_kind : RegionDecl → Bool
decl_kind decl = decl.is_static

-- whether each region is static, by its number
abbrev pub region_kinds : List RegionDecl → List Bool
region_kinds declared = false ∷ true ∷ map decl_kind declared

-- whether the region of the name is static, where there is one
unfoldable pub kind_of : List RegionDecl → List ℕ → Option Bool
kind_of declared name = option_and_then (slice_get (region_kinds declared)) (number_of declared name)

-- the region of a field, by the first put of that name
abbrev pub place_of : List RegionDecl → List FieldPut → List ℕ → Option ℕ
place_of declared puts field =
    option_and_then (λ put. number_of declared (field_region put)) (find (λ put. bytes_eq put.field field) puts)
