use Rattle.std.proofs.Common.{◌∙◌}
use Rattle.bound_tree.proofs.Pushing.{pushed, way_of-Again}
use Rattle.bound_tree.proofs.way.put_again.Goals as goal

pub returns : goal.returns
returns c = pushed _ _ _ c.in_ok-push.ensures.ok ∙ way_of-Again _ _
