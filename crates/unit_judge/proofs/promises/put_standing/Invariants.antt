use Rattle.std.proofs.Common.{◌≡◌, ◌++◌, drop, map}
use Rattle.unit_judge.specs.Promises.{standing_promise}
use Rattle.unit_judge.proofs.promises.put_standing.Given as goal

-- those so far and those of the promises that are left are all
abbrev pub invariant-loop-at : goal.invariant-loop-at
invariant-loop-at l = l.out.items ++ map standing_promise (drop l.at l.promises) ≡ l.fn.out.items ++ map standing_promise l.promises
