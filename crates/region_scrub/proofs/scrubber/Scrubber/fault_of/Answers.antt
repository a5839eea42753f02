use Rattle.region_scrub.proofs.Standing.{stage_within}
use Rattle.region_scrub.proofs.scrubber.Scrubber.fault_of.Goals as goal

pub settle-requires-clause-within : goal.settle-requires-clause-within
settle-requires-clause-within c = stage_within c.args.self.now c.requires.stage
