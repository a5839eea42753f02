use Rattle.std.proofs.Common.{take}
use Rattle.std.specs.Prelude.{All}
use Rattle.consistency.specs.Among.{WayAmong}
use Rattle.project_judge.proofs.sound.ways_are_among.Given as goal

-- the alternatives so far
abbrev pub invariant-loop-way : goal.invariant-loop-way
invariant-loop-way l = All (WayAmong l.promises) (take l.way-index l.ways)
