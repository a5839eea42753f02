use Rattle.std.proofs.Common.{◌≡◌, replicate}
use Rattle.region_tree.specs.declared.disjoint.HeldState.TheVariants.{Free}
use Rattle.region_tree.proofs.disjoint.DisjointRegions.new.Given as goal

abbrev pub invariant-loop-i : goal.invariant-loop-i
invariant-loop-i l = l.states.items ≡ replicate l._i Free
