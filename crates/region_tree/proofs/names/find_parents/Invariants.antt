use Rattle.std.proofs.Common.{◌≡◌, ◌∷◌, map, take}
use Rattle.std.specs.Prelude.{None}
use Rattle.region_tree.specs.Regions.{parent_number}
use Rattle.region_tree.proofs.names.find_parents.Given as goal

-- the parents of the regions so far
abbrev pub invariant-loop-decl : goal.invariant-loop-decl
invariant-loop-decl l = l.parents.items ≡ None ∷ None ∷ map (parent_number l.declared) (take l.decl-index l.declared)
