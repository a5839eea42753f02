use Rattle.std.proofs.Common.{◌≡◌, length}
use Rattle.consistency.specs.Tables.{BlameSteps}
use Rattle.consistency.proofs.causes.blame_steps.Given as goal

abbrev pub invariant-loop-promise : goal.invariant-loop-promise
invariant-loop-promise l = (length l.steps.items ≡ l.promise) × BlameSteps l.clauses l.left l.causes l.promise l.steps.items
