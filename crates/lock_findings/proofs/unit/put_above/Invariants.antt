use Rattle.std.proofs.Common.{◌≡◌, ◌++◌, map, take}
use Rattle.lock_findings.specs.LockFindings.{above_finding}
use Rattle.lock_findings.proofs.unit.put_above.Given as goal

abbrev pub invariant-loop-above : goal.invariant-loop-above
invariant-loop-above l = l.out ≡ l.fn.out ++ map (above_finding l.own l.asked.need) (take l.above-index l.aboves)
