use Rattle.std.proofs.Common.{◌≡◌, take}
use Rattle.scrub_rules.specs.Target.{kinds_in, targets_code}
use Rattle.scrub_rules.proofs.target.targets_code.Given as goal

-- the code of the targets so far
abbrev pub invariant-loop-target : goal.invariant-loop-target
invariant-loop-target l = l.code ≡ targets_code (kinds_in l.at.kinds.now) l.at.class.now l.at.has_this l.at.params.now (take l.target-index l.targets)
