use Rattle.promise_scrub.proofs.StandingLocks.{lock_fits}
use Rattle.promise_scrub.proofs.laws.lock_fields_fit.Goals as goal

pub returns : goal.returns
returns c = lock_fits
