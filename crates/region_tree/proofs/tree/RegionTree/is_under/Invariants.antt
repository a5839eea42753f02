use Rattle.std.proofs.Common.{◌<◌, length}
use Rattle.region_tree.specs.Chains.{IsUnder}
use Rattle.region_tree.specs.Marks.{mark_at, rank_of}
use Rattle.region_tree.proofs.tree.RegionTree.is_under.Given as goal

-- the region `at` is under `b` just where `a` is
abbrev pub invariant-loop-at : goal.invariant-loop-at
invariant-loop-at l = record {
  within : l.at < length l.self.parents.items;
  there : IsUnder l.self.parents.items l.at l.b.number → IsUnder l.self.parents.items l.fn.a.number l.b.number;
  back : IsUnder l.self.parents.items l.fn.a.number l.b.number → IsUnder l.self.parents.items l.at l.b.number;
}

abbrev pub decreases-loop-at : goal.decreases-loop-at
decreases-loop-at l = rank_of (mark_at l.self.marks.items l.at)
