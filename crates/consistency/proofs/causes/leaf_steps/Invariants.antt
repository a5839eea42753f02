use Rattle.std.proofs.Common.{◌≡◌, length}
use Rattle.consistency.specs.Tables.{LeafSteps}
use Rattle.consistency.proofs.causes.leaf_steps.Given as goal

abbrev pub invariant-loop-promise : goal.invariant-loop-promise
invariant-loop-promise l = (length l.steps.items ≡ l.promise) × LeafSteps l.clauses l.con l.firm l.causes l.promise l.steps.items
