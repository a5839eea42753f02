use Rattle.std.proofs.Common.{map}
use Rattle.bound_tree.specs.Reading.{term_of}
use Rattle.tree_places.specs.Numbers.{number_of}
use Rattle.expression_binding.specs.Bound.{grounded}
use Rattle.expression_binding.proofs.Arguments.{Goes}
use Rattle.expression_binding.proofs.bound.+expr.Given as goal

-- what is made of the arguments so far, with what is left of them, is all
abbrev pub invariant-raw_all-loop-at : goal.invariant-raw_all-loop-at
invariant-raw_all-loop-at g l =
    Goes (grounded (g.T.TypeTable.types l.site.types.now) l.site.class.now l.site.is_static) l.scope (number_of l.site.places.now) l.params l.list (map term_of l.made) l.fn.notes l.notes l.at
