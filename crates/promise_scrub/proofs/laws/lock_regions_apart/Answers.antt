use Rattle.promise_scrub.proofs.StandingLocks.{locks_apart}
use Rattle.promise_scrub.proofs.laws.lock_regions_apart.Goals as goal

pub returns : goal.returns
returns c = locks_apart
