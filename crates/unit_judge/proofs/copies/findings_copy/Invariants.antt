use Rattle.std.proofs.Common.{◌≡◌, take}
use Rattle.unit_judge.proofs.copies.findings_copy.Given as goal

-- the copies so far
abbrev pub invariant-loop-finding : goal.invariant-loop-finding
invariant-loop-finding l = l.copy ≡ take l.finding-index l.findings
