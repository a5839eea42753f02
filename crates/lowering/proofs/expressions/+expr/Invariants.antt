use Rattle.std.proofs.Common.{◌≡◌, ◌≤◌, drop, length}
use Rattle.bound_tree.specs.Reading.{terms_of}
use Rattle.lowering.specs.Lower.{exprs}
use Rattle.lowering.proofs.expressions.+expr.Given as goal

abbrev pub invariant-put_exprs-loop-at : goal.invariant-put_exprs-loop-at
invariant-put_exprs-loop-at l = record { low : l.at ≤ length l.list; is : l.code ≡ exprs (terms_of (drop l.at l.list)) l.fn.code }

abbrev pub decreases-put_exprs-loop-at : goal.decreases-put_exprs-loop-at
decreases-put_exprs-loop-at l = l.at
