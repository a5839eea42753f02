use Rattle.std.proofs.Common.{◌≡◌, take}
use Rattle.unit_judge.proofs.copies.ways_copy.Given as goal

-- the copies so far
abbrev pub invariant-loop-way : goal.invariant-loop-way
invariant-loop-way l = l.copy ≡ take l.way-index l.ways
