use Rattle.std.proofs.Common.{◌≡◌, length}
use Rattle.region_scrub.specs.Stages.{Examined, IsStage}
use Rattle.region_scrub.proofs.scrubber.Scrubber.next_faulty.Given as goal

abbrev pub invariant-loop-region : goal.invariant-loop-region
invariant-loop-region l = record {
  stage : IsStage l.self;
  examined : Examined l.self 0;
  declared : l.self.declared.now ≡ l.initial.self.declared.now;
  aside : l.self.aside.items ≡ l.initial.self.aside.items;
}

abbrev pub decreases-loop-region : goal.decreases-loop-region
decreases-loop-region l = length l.self.work.keys
