use Rattle.std.proofs.Common.{◌≡◌, ◌≤◌, drop, length}
use Rattle.bound_tree.specs.Flows.{in_statements}
use Rattle.bound_tree.specs.Reading.{statements_of}
use Rattle.bound_tree.specs.Ways.{whole}
use Rattle.bound_tree.proofs.flow.+stmt.Given as goal

abbrev pub invariant-put_stmts-loop-at : goal.invariant-put_stmts-loop-at
invariant-put_stmts-loop-at l = record { low : l.at ≤ length l.list; is : whole l.flow ≡ in_statements (statements_of (drop l.at l.list)) (whole l.fn.flow) }

abbrev pub decreases-put_stmts-loop-at : goal.decreases-put_stmts-loop-at
decreases-put_stmts-loop-at l = l.at
