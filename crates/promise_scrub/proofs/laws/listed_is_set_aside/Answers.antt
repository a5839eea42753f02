use Rattle.promise_scrub.proofs.Numbering.{where_aside}
use Rattle.promise_scrub.proofs.laws.listed_is_set_aside.Goals as goal

pub returns : goal.returns
returns c = where_aside
