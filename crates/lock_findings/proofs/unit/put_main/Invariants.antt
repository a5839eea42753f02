use Rattle.std.proofs.Common.{◌≡◌, ◌++◌, map, take}
use Rattle.lock_findings.specs.LockFindings.{main_finding}
use Rattle.lock_findings.proofs.unit.put_main.Given as goal

abbrev pub invariant-loop-asked : goal.invariant-loop-asked
invariant-loop-asked l = l.out ≡ l.fn.out ++ map (main_finding l.own) (take l.asked-index l.asked-items)
