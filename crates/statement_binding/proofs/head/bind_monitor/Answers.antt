use Rattle.std.proofs.Common.{IfOk, ◌≡◌, subst, sym}
use Rattle.java_tree.specs.declared.stmt.Monitor.{Monitor}
use Rattle.expression_binding.specs.Bound.{grounded}
use Rattle.tree_places.specs.Numbers.{number_of}
use Rattle.tree_places.specs.Plain.{plain_monitor}
use Rattle.statement_binding.specs.Heads as spec
use Rattle.statement_binding.specs.declared.head.Held.{Held}
use Rattle.statement_binding.proofs.head.bind_monitor.Goals as goal

pub returns-in-Class-clause-held : goal.returns-in-Class-clause-held
returns-in-Class-clause-held g c =
    subst
    (λ (m : Monitor). IfOk c.held_class.result (λ made. spec.shown_held made ≡ spec.held_by (grounded (g.T.TypeTable.types c.args.site.now.types.now) c.args.site.now.class.now c.args.site.now.is_static) c.args.scope.now (plain_monitor (number_of c.args.site.now.places.now) m)))
    (sym c.in-Class.is) c.held_class.ensures.held
