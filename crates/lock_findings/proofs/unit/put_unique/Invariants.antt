use Rattle.std.proofs.Common.{◌≡◌, ◌++◌, map, take}
use Rattle.lock_findings.specs.LockFindings.{unique_finding}
use Rattle.lock_findings.proofs.unit.put_unique.Given as goal

abbrev pub invariant-loop-guard : goal.invariant-loop-guard
invariant-loop-guard l = l.out ≡ l.fn.out ++ map (unique_finding l.own l.name l.unique) (take l.guard-index l.guards)
