use Rattle.std.specs.Option.{option_copied}
use Rattle.expression_binding.specs.Bound.{grounded}
use Rattle.tree_places.specs.Numbers.{number_of}
use Rattle.statement_binding.proofs.Running.{Goes}
use Rattle.statement_binding.proofs.statement.+stmt.Given as goal

-- what is made of the statements so far, with what is left of them, is all
abbrev pub invariant-bind_items-loop-item : goal.invariant-bind_items-loop-item
invariant-bind_items-loop-item g l =
    Goes (grounded (g.T.TypeTable.types l.site.types.now) l.site.class.now l.site.is_static) (option_copied l.given) (number_of l.site.places.now) l.items l.fn.locals l.locals l.made l.fn.notes l.notes l.item-index
