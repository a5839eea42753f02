use Rattle.std.proofs.Common.{◌≡◌, ◌≤◌, drop, length}
use Rattle.bound_tree.specs.Flows.{in_terms}
use Rattle.bound_tree.specs.Reading.{terms_of}
use Rattle.bound_tree.specs.Ways.{whole}
use Rattle.bound_tree.proofs.flow.+expr.Given as goal

abbrev pub invariant-put_exprs-loop-at : goal.invariant-put_exprs-loop-at
invariant-put_exprs-loop-at l = record { low : l.at ≤ length l.list; is : whole l.flow ≡ in_terms (terms_of (drop l.at l.list)) (whole l.fn.flow) }

abbrev pub decreases-put_exprs-loop-at : goal.decreases-put_exprs-loop-at
decreases-put_exprs-loop-at l = l.at
