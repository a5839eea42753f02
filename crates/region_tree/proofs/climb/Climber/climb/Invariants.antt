use Rattle.std.proofs.Common.{◌≡◌, ◌≢◌, ◌<◌, ◌⊎◌, length, sum_by}
use Rattle.region_tree.specs.declared.chain_state.ChainState.TheVariants.{Fresh}
use Rattle.region_tree.specs.Marks.{mark_at, fresh_weight, Marked, LostClosed, OnPath, ClimbsTo, StaysBegun}
use Rattle.region_tree.proofs.climb.Climber.climb.Given as goal

abbrev pub invariant-loop-self : goal.invariant-loop-self
invariant-loop-self l = record {
  parents : l.self.parents.items ≡ l.initial.self.parents.items;
  marked : Marked l.self.parents.items l.self.marks.items l.self.next;
  lost : LostClosed l.self.parents.items l.self.marks.items;
  path : OnPath l.self.marks.items l.self.path.items;
  climbs : ClimbsTo l.self.parents.items l.self.path.items l.at;
  within : l.at < length l.self.marks.items;
  begun : (l.at ≡ l.start) ⊎ (mark_at l.self.marks.items l.start ≢ Fresh);
  stays : StaysBegun l.initial.self.marks.items l.self.marks.items;
}

-- the regions at which no climb has come
abbrev pub decreases-loop-self : goal.decreases-loop-self
decreases-loop-self l = sum_by fresh_weight l.self.marks.items
