-- What a tree of regions shows.
use Rattle.std.specs.Prelude.{ℕ, List, Option}
use Rattle.region_tree.specs.declared.tree.RegionTree.{RegionTree}
use Rattle.region_tree.specs.Names.{number_at}

-- the parents of its regions by their numbers
abbrev pub parents_in : RegionTree → List (Option ℕ)
parents_in tree = tree.parents.items

-- the number of the region of the name
abbrev pub region_in : RegionTree → List ℕ → Option ℕ
region_in tree name = number_at tree.numbers name

-- the number of the region of the field
abbrev pub place_in : RegionTree → List ℕ → Option ℕ
place_in tree field = number_at tree.places field
