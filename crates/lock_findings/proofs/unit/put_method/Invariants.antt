use Rattle.std.proofs.Common.{◌≡◌, ◌++◌, take}
use Rattle.std.specs.List.{flat_map}
use Rattle.lock_findings.specs.LockFindings.{above_findings}
use Rattle.lock_findings.proofs.unit.put_method.Given as goal

abbrev pub invariant-loop-asked : goal.invariant-loop-asked
invariant-loop-asked l = l.out ≡ l.fn.out ++ flat_map (above_findings l.own l.aboves) (take l.asked-index l.asked-items)
