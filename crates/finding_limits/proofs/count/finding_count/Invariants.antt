use Rattle.std.proofs.Common.{◌≡◌, ◌≤◌, take}
use Rattle.finding_limits.specs.Quantities.{finding_count}
use Rattle.finding_limits.proofs.count.finding_count.Given as goal

-- those of the findings so far
abbrev pub invariant-loop-finding : goal.invariant-loop-finding
invariant-loop-finding l = (l.count ≡ finding_count (take l.finding-index l.findings)) × (l.count ≤ l.finding-index)
