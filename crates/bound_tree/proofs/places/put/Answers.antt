use Rattle.bound_tree.proofs.Walks.{pushed-back}
use Rattle.bound_tree.proofs.places.put.Goals as goal

pub returns : goal.returns
returns c = pushed-back _ _ _ c.in_ok-push.ensures.ok
