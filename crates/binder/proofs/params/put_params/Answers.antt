use Rattle.std.proofs.Common.{arith}
use Rattle.tree_places.specs.Numbers.{number_of}
use Rattle.views.specs.Face.{face}
use Rattle.unit_rules.specs.Shown.{types_shown}
use Rattle.binder.proofs.Parameters.{notes_step, scope_step}
use Rattle.binder.proofs.params.put_params.Goals as goal

pub loop-param-preserved : goal.loop-param-preserved
loop-param-preserved c = record {
  next = omega (arith, c.in_ok-number.ensures, c.loop-param.invariant.next);
  scope = scope_step c.args.params.now c.loop-param.param-index c.param-item.result c.loop-param.number c.in_ok-number.number c.loop-param.scope c.put.new.self _ c.in_ok-entry.field-0
      c.loop-param-test.true c.param-item.is c.in_ok-number.ensures c.in_ok-entry.ensures c.in_ok-put.ensures.ok c.loop-param.invariant.scope;
  notes = notes_step (types_shown (face c.args.site.now.types.now)) (number_of c.args.site.now.places.now) c.args.params.now c.loop-param.param-index c.param-item.result
      c.loop-param.number c.in_ok-number.number c.loop-param.scope c.put.new.self c.in_ok-entry.field-0 c.loop-param.notes c.put_param.new.notes _ c.loop-param-test.true c.param-item.is
      c.in_ok-number.ensures c.in_ok-entry.ensures c.in_ok-put.ensures.ok c.in_ok-put_param.ensures c.loop-param.invariant.notes;
}
