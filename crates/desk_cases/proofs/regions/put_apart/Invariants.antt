use Rattle.region_tree.specs.Disjoint.{AreOf}
use Rattle.region_tree.specs.Tree.{parents_in}
use Rattle.desk_cases.proofs.regions.put_apart.Given as goal

-- the regions that were added are of this tree
abbrev pub invariant-loop-name : goal.invariant-loop-name
invariant-loop-name l = AreOf (parents_in l.tree) l.apart
