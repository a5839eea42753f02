use Rattle.views.specs.Face.{face}
use Rattle.bound_unit.specs.Aboves.{above_as}
use Rattle.lock_check.specs.Roles.{above_of}
use Rattle.lock_check.proofs.Walks.{mapped}
use Rattle.lock_check.proofs.roles.aboves_of.Goals as goal

pub loop-method-preserved : goal.loop-method-preserved
loop-method-preserved c =
    mapped (above_of (face c.args.view.now)) above_as c.args.methods.now c.loop-method.method-index c.method-item.result c.loop-method.aboves c.push.new.self
    c.in_ok-above_of.field-0 c.loop-method-test.true c.method-item.is c.loop-method.invariant c.in_ok-above_of.ensures c.in_ok-push.ensures.ok
