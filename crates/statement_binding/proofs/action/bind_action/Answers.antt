use Rattle.std.proofs.Common.{◌≡◌, ℕ, IfOk, subst, sym}
use Rattle.java_tree.specs.declared.stmt.Action.{Action}
use Rattle.bound_tree.specs.Reading.{statement_of}
use Rattle.expression_binding.specs.Bound.{grounded}
use Rattle.tree_places.specs.Numbers.{number_of}
use Rattle.tree_places.specs.Plain.{plain_action, plain_expr}
use Rattle.statement_binding.specs.Writes as spec
use Rattle.statement_binding.proofs.action.bind_action.Goals as goal

pub returns-in-StepAfter-clause-made : goal.returns-in-StepAfter-clause-made
returns-in-StepAfter-clause-made g c =
    let site = grounded (g.T.TypeTable.types c.args.site.now.types.now) c.args.site.now.class.now c.args.site.now.is_static in
    let number = number_of c.args.site.now.places.now in
    subst
    (λ (a : Action). IfOk c.bind_step.result (λ made. statement_of made ≡ (spec.action site c.args.scope.now (plain_action number a)).made))
    (sym c.in-StepAfter.is)
    (subst
    (λ (n : ℕ). IfOk c.bind_step.result (λ made. statement_of made ≡ (spec.stepped site c.args.scope.now c.in-StepAfter.op n (plain_expr number c.in-StepAfter.target)).made))
    c.place.ensures c.bind_step.ensures.made)

pub returns-in-Start-clause-made : goal.returns-in-Start-clause-made
returns-in-Start-clause-made g c =
    let site = grounded (g.T.TypeTable.types c.args.site.now.types.now) c.args.site.now.class.now c.args.site.now.is_static in
    let number = number_of c.args.site.now.places.now in
    subst
    (λ (a : Action). IfOk c.bind_start.result (λ made. statement_of made ≡ (spec.action site c.args.scope.now (plain_action number a)).made))
    (sym c.in-Start.is)
    (subst
    (λ (n : ℕ). IfOk c.bind_start.result (λ made. statement_of made ≡ (spec.thread site c.args.scope.now n (plain_expr number c.in-Start.value)).made))
    c.place-in-Start.ensures c.bind_start.ensures.made)
