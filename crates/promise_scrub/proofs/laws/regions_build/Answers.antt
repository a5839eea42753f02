use Rattle.promise_scrub.proofs.StandingRegions.{no_build_fault}
use Rattle.promise_scrub.proofs.laws.regions_build.Goals as goal

pub returns : goal.returns
returns c = no_build_fault
