use Rattle.std.proofs.Common.{◌≡◌, ◌+◌, length, sum_by}
use Rattle.region_scrub.specs.Rooting.{known_weight, Forgets, IsForgetting, KeepsTops}
use Rattle.region_scrub.proofs.rooting.Rooting.forget.Given as goal

abbrev pub invariant-loop-at : goal.invariant-loop-at
invariant-loop-at l = record {
  parents : l.self.parents.items ≡ l.initial.self.parents.items;
  forgetting : IsForgetting l.self.parents.items l.self.marks.items l.self.path.items;
  forgets : Forgets l.initial.self.marks.items l.self.marks.items l.initial.work l.work;
  tops : KeepsTops l.self.parents.items l.initial.self.marks.items l.self.marks.items;
}

abbrev pub decreases-loop-at : goal.decreases-loop-at
decreases-loop-at l = length l.self.path.items + sum_by known_weight l.self.marks.items
