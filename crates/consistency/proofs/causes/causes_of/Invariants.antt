use Rattle.std.proofs.Common.{◌≡◌, length}
use Rattle.consistency.specs.Tables.{Causes}
use Rattle.consistency.proofs.causes.causes_of.Given as goal

abbrev pub invariant-loop-i : goal.invariant-loop-i
invariant-loop-i l = (length l.causes.items ≡ length l.left) × Causes l.clauses l.left l.given l.i l.causes.items
