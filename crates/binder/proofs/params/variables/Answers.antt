use Rattle.tree_places.specs.Numbers.{number_of}
use Rattle.unit_rules.proofs.Lists.{map_step}
use Rattle.binder.specs.Params.{variable_of}
use Rattle.binder.proofs.params.variables.Goals as goal

pub loop-param-preserved : goal.loop-param-preserved
loop-param-preserved c =
    map_step (variable_of (number_of c.args.places.now)) c.args.params.now c.loop-param.param-index c.param-item.result c.loop-param.made c.push.new.self c.in_ok-variable.field-0
    c.loop-param-test.true c.param-item.is c.in_ok-push.ensures.ok c.in_ok-variable.ensures c.loop-param.invariant
