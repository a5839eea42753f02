use Rattle.std.proofs.Common.{◌≡◌, ◌-◌, ◌^◌, min, take}
use Rattle.finding_limits.specs.Quantities.{link_count}
use Rattle.finding_limits.proofs.count.link_count.Given as goal

-- those of the findings so far
abbrev pub invariant-loop-finding : goal.invariant-loop-finding
invariant-loop-finding l = l.count ≡ min (link_count (take l.finding-index l.findings)) (2 ^ 64 - 1)
