use Rattle.promise_scrub.proofs.Differing.{unit_keys_differ}
use Rattle.promise_scrub.proofs.laws.standing_keys_differ.Goals as goal

pub returns : goal.returns
returns c = unit_keys_differ
