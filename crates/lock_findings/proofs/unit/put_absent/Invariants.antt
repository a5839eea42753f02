use Rattle.std.proofs.Common.{◌≡◌, ◌++◌, map, take, filter}
use Rattle.lock_findings.specs.LockFindings.{absent_finding, is_absent}
use Rattle.lock_findings.proofs.unit.put_absent.Given as goal

abbrev pub invariant-loop-asked : goal.invariant-loop-asked
invariant-loop-asked l = l.out ≡ l.fn.out ++ map (absent_finding l.own) (filter is_absent (take l.asked-index l.own.needs))
