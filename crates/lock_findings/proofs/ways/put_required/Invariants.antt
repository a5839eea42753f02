use Rattle.std.proofs.Common.{◌≡◌, ◌++◌, map, filter, take}
use Rattle.lock_findings.specs.Ways.{own_promised, is_required}
use Rattle.lock_findings.proofs.ways.put_required.Given as goal

abbrev pub invariant-loop-asked : goal.invariant-loop-asked
invariant-loop-asked l = l.ways ≡ l.fn.ways ++ map own_promised (filter (is_required l.own.is_static l.lock l.base) (take l.asked-index l.own.needs))
