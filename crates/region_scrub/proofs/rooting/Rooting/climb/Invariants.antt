use Rattle.std.proofs.Common.{◌≡◌, ◌≢◌, ◌<◌, ◌⊎◌, length, sum_by}
use Rattle.region_scrub.specs.declared.chain_state.ChainState.TheVariants.{Fresh}
use Rattle.region_scrub.specs.Rooting.{mark_at, fresh_weight, IsClimb, IsWithin, Stays}
use Rattle.region_scrub.proofs.rooting.Rooting.climb.Given as goal

abbrev pub invariant-loop-self : goal.invariant-loop-self
invariant-loop-self l = record {
  parents : l.self.parents.items ≡ l.initial.self.parents.items;
  roots : IsWithin l.self.parents.items;
  climb : IsClimb l.self.parents.items l.self.marks.items l.self.path.items l.at;
  within : l.at < length l.self.marks.items;
  begun : (l.at ≡ l.start) ⊎ (mark_at l.self.marks.items l.start ≢ Fresh);
  stays : Stays l.initial.self.marks.items l.self.marks.items;
}

-- the regions of which nothing is known
abbrev pub decreases-loop-self : goal.decreases-loop-self
decreases-loop-self l = sum_by fresh_weight l.self.marks.items
