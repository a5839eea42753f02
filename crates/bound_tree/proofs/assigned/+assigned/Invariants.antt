use Rattle.std.proofs.Common.{◌≡◌, ◌++◌, drop}
use Rattle.bound_tree.specs.Claims.{assigned_all}
use Rattle.bound_tree.specs.Reading.{statements_of}
use Rattle.bound_tree.proofs.assigned.+assigned.Given as goal

abbrev pub invariant-put_all_assigned-loop-stmt : goal.invariant-put_all_assigned-loop-stmt
invariant-put_all_assigned-loop-stmt l = l.locals ++ assigned_all (statements_of (drop l.stmt-index l.list)) ≡ l.fn.locals ++ assigned_all (statements_of l.list)
