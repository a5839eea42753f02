use Rattle.std.proofs.Common.{◌≡◌, take}
use Rattle.unit_findings.specs.Promises.{standing_findings}
use Rattle.unit_findings.proofs.unit.standing_of.Given as goal

-- those of the promises so far
abbrev pub invariant-loop-promise : goal.invariant-loop-promise
invariant-loop-promise l = l.found ≡ standing_findings l.unit (take l.promise-index l.promises)
