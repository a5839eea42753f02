use Rattle.std.proofs.Common.{◌≡◌, take}
use Rattle.scrub_rules.proofs.copy.copied_targets.Given as goal

-- the copies so far
abbrev pub invariant-loop-target : goal.invariant-loop-target
invariant-loop-target l = l.copies ≡ take l.target-index l.targets
