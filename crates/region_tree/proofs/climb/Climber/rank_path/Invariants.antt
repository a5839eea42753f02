use Rattle.std.proofs.Common.{◌≡◌, vec_len}
use Rattle.region_tree.specs.Marks.{Marked, LostClosed, OnPath, ClimbsToRank, StaysBegun}
use Rattle.region_tree.proofs.climb.Climber.rank_path.Given as goal

abbrev pub invariant-loop-region : goal.invariant-loop-region
invariant-loop-region l = record {
  parents : l.self.parents.items ≡ l.initial.self.parents.items;
  marked : Marked l.self.parents.items l.self.marks.items l.self.next;
  lost : LostClosed l.self.parents.items l.self.marks.items;
  path : OnPath l.self.marks.items l.self.path.items;
  rooted : ClimbsToRank l.self.parents.items l.self.marks.items l.self.path.items;
  stays : StaysBegun l.initial.self.marks.items l.self.marks.items;
}

abbrev pub decreases-loop-region : goal.decreases-loop-region
decreases-loop-region l = vec_len l.self.path
