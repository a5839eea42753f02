use Rattle.std.proofs.Common.{◌<◌, length}
use Rattle.region_tree.specs.Marks.{mark_at, rank_of}
use Rattle.region_tree.proofs.Apart.{Climbing}
use Rattle.region_tree.proofs.disjoint.DisjointRegions.mark_up.Given as goal

abbrev pub invariant-loop-self : goal.invariant-loop-self
invariant-loop-self l = record {
  within : l.at < length l.tree.parents.items;
  climbing : Climbing l.tree.parents.items (λ z. rank_of (mark_at l.tree.marks.items z)) l.initial.self.states.items l.self.states.items l.start l.at l.given;
}

abbrev pub decreases-loop-self : goal.decreases-loop-self
decreases-loop-self l = rank_of (mark_at l.tree.marks.items l.at)
