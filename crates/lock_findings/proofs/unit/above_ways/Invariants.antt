use Rattle.std.proofs.Common.{◌≡◌, ◌++◌, map, take, filter}
use Rattle.lock_findings.specs.Ways.{promised}
use Rattle.lock_findings.specs.LockFindings.{asks_same}
use Rattle.lock_findings.proofs.unit.above_ways.Given as goal

abbrev pub invariant-loop-other : goal.invariant-loop-other
invariant-loop-other l = l.ways ≡ map promised (filter (asks_same l.need) (take l.other-index l.others))
