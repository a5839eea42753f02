use Rattle.std.proofs.Common.{◌≡◌, length}
use Rattle.consistency_cases.proofs.Named.{Named}
use Rattle.consistency_cases.proofs.case.keys_of.Given as goal

abbrev pub invariant-loop-promise : goal.invariant-loop-promise
invariant-loop-promise l = (length l.keys.items ≡ l.promise) × Named l.keys.items
