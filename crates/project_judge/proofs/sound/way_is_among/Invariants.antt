use Rattle.std.proofs.Common.{take}
use Rattle.std.specs.Prelude.{All}
use Rattle.consistency.specs.Among.{LinkAmong}
use Rattle.project_judge.proofs.sound.way_is_among.Given as goal

-- the links so far
abbrev pub invariant-loop-link : goal.invariant-loop-link
invariant-loop-link l = All (LinkAmong l.promises) (take l.link-index l.link-items)
