use Rattle.expression_binding.specs.Bound.{grounded}
use Rattle.tree_places.specs.Numbers.{number_of}
use Rattle.statement_binding.proofs.Running.{TopGoes}
use Rattle.statement_binding.proofs.top.bind_top_items.Given as goal

-- what is made of the statements so far, with what is left of them, is all
abbrev pub invariant-loop-item : goal.invariant-loop-item
invariant-loop-item g l =
    TopGoes (grounded (g.T.TypeTable.types l.site.types.now) l.site.class.now l.site.is_static) (number_of l.site.places.now) l.items l.fn.locals l.locals l.written l.made l.fn.notes l.notes l.item-index
