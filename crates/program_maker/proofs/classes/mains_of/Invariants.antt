use Rattle.std.proofs.Common.{◌≡◌, ◌++◌, drop}
use Rattle.program_maker.specs.Kept.{surfaces_lent}
use Rattle.program_maker.specs.Program.{mains_from}
use Rattle.program_maker.proofs.classes.mains_of.Given as goal

-- those so far and those of what is left are all
abbrev pub invariant-loop-at : goal.invariant-loop-at
invariant-loop-at l = l.mains ++ mains_from l.at (surfaces_lent (drop l.at l.surfaces)) ≡ mains_from 0 (surfaces_lent l.surfaces)
