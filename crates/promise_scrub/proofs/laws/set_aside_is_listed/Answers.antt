use Rattle.promise_scrub.proofs.Numbering.{aside_where}
use Rattle.promise_scrub.proofs.laws.set_aside_is_listed.Goals as goal

pub returns : goal.returns
returns c = aside_where
