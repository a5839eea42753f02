use Rattle.promise_scrub.proofs.SeenAlike.{same_surface}
use Rattle.promise_scrub.proofs.laws.surfaces_alike.Goals as goal

pub returns : goal.returns
returns c = same_surface
