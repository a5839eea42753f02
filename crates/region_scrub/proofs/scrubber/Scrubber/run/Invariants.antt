use Rattle.std.proofs.Common.{◌≡◌, ℕ, List}
use Rattle.std.specs.Prelude.{Option, sum_by}
use Rattle.region_scrub.specs.declared.fault.RegionFault.{RegionFault}
use Rattle.region_scrub.specs.Clearing.{Clears, ClearsIn}
use Rattle.region_scrub.specs.Stages.{Examined, IsStage}
use Rattle.region_scrub.proofs.Clearings.{left_weight}
use Rattle.region_scrub.proofs.scrubber.Scrubber.run.Given as goal

abbrev pub invariant-loop-self : goal.invariant-loop-self
invariant-loop-self l = record {
  stage : IsStage l.self;
  examined : Examined l.self 0;
  declared : l.self.declared.now ≡ l.initial.self.declared.now;
  clears : (n : ℕ) (after : List (Option RegionFault)) → ClearsIn n l.initial.self.declared.now l.self.aside.items after → Clears l.initial.self.declared.now after;
}

abbrev pub decreases-loop-self : goal.decreases-loop-self
decreases-loop-self l = sum_by left_weight l.self.aside.items
