use Rattle.promise_scrub.proofs.Apart.{class_keys_differ}
use Rattle.promise_scrub.proofs.laws.promise_keys_differ.Goals as goal

pub returns : goal.returns
returns c = class_keys_differ
