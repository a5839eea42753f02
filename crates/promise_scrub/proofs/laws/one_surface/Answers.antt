use Rattle.promise_scrub.proofs.Single.{one_face}
use Rattle.promise_scrub.proofs.laws.one_surface.Goals as goal

pub returns : goal.returns
returns c = one_face
