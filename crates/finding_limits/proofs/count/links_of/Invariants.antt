use Rattle.std.proofs.Common.{◌≡◌, ◌-◌, ◌^◌, min, length, take}
use Rattle.std.specs.List.{sum_by}
use Rattle.finding_limits.proofs.count.links_of.Given as goal

-- those of the ways so far
abbrev pub invariant-loop-way : goal.invariant-loop-way
invariant-loop-way l = l.count ≡ min (sum_by length (take l.way-index l.ways)) (2 ^ 64 - 1)
