use Rattle.std.proofs.Common.{◌≡◌, ◌+◌, ◌≤◌, length, sum_by}
use Rattle.region_scrub.specs.Rooting.{known_weight, Forgets, IsForgettingFrom, KeepsTops, SharesKey}
use Rattle.region_scrub.proofs.Forgetting.{left}
use Rattle.region_scrub.proofs.rooting.Rooting.forget_below.Given as goal

abbrev pub invariant-loop-next : goal.invariant-loop-next
invariant-loop-next l = record {
  parents : l.self.parents.items ≡ l.initial.self.parents.items;
  shares : SharesKey l.same.keys.items l.below.keys.items l.region l.next;
  forgetting : IsForgettingFrom l.self.parents.items l.self.marks.items l.self.path.items l.region l.next;
  forgets : Forgets l.initial.self.marks.items l.self.marks.items l.initial.work l.work;
  tops : KeepsTops l.self.parents.items l.initial.self.marks.items l.self.marks.items;
  weight : length l.self.path.items + sum_by known_weight l.self.marks.items ≤ length l.initial.self.path.items + sum_by known_weight l.initial.self.marks.items;
}

abbrev pub decreases-loop-next : goal.decreases-loop-next
decreases-loop-next l = left (length l.below.keys.items) l.next
