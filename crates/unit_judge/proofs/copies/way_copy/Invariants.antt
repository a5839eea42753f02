use Rattle.std.proofs.Common.{◌≡◌, take}
use Rattle.unit_judge.proofs.copies.way_copy.Given as goal

-- the copies so far
abbrev pub invariant-loop-link : goal.invariant-loop-link
invariant-loop-link l = l.copy ≡ take l.link-index l.way
