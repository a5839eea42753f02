use Rattle.std.proofs.Common.{◌≡◌, ◌≢◌, ◌<◌, ℕ, [], length}
use Rattle.region_tree.specs.declared.chain_state.ChainState.TheVariants.{Fresh}
use Rattle.region_tree.specs.Marks.{mark_at, Marked, LostClosed, IsSettled}
use Rattle.region_tree.proofs.climb.Climber.settle_all.Given as goal

abbrev pub invariant-loop-start : goal.invariant-loop-start
invariant-loop-start l = record {
  parents : l.self.parents.items ≡ l.initial.self.parents.items;
  long : length l.self.marks.items ≡ length l.initial.self.marks.items;
  marked : Marked l.self.parents.items l.self.marks.items l.self.next;
  lost : LostClosed l.self.parents.items l.self.marks.items;
  settled : IsSettled l.self.marks.items;
  empty : l.self.path.items ≡ [];
  begun : (k : ℕ) → k < l.start → mark_at l.self.marks.items k ≢ Fresh;
}
