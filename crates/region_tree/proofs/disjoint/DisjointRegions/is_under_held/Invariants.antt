use Rattle.std.proofs.Common.{◌<◌, length}
use Rattle.region_tree.specs.Disjoint.{UnderHeld}
use Rattle.region_tree.specs.Marks.{mark_at, rank_of}
use Rattle.region_tree.proofs.disjoint.DisjointRegions.is_under_held.Given as goal

-- the region `at` is under a held one just where `start` is
abbrev pub invariant-loop-parent : goal.invariant-loop-parent
invariant-loop-parent l = record {
  within : l.at < length l.tree.parents.items;
  there : UnderHeld l.tree.parents.items l.self.states.items l.at → UnderHeld l.tree.parents.items l.self.states.items l.start;
  back : UnderHeld l.tree.parents.items l.self.states.items l.start → UnderHeld l.tree.parents.items l.self.states.items l.at;
}

abbrev pub decreases-loop-parent : goal.decreases-loop-parent
decreases-loop-parent l = rank_of (mark_at l.tree.marks.items l.at)
