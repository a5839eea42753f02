use Rattle.std.proofs.Common.{◌∙◌}
use Rattle.bound_tree.proofs.Pushing.{pushed, way_of-Names}
use Rattle.bound_tree.proofs.way.put_naming.Goals as goal

pub returns : goal.returns
returns c = pushed _ _ _ c.in_ok-push.ensures.ok ∙ way_of-Names _ _ _
