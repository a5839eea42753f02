use Rattle.std.proofs.Common.{take}
use Rattle.std.specs.Prelude.{All}
use Rattle.project_answers.specs.Laws.{HasWay}
use Rattle.project_judge.proofs.sound.have_ways.Given as goal

-- the findings so far
abbrev pub invariant-loop-sited : goal.invariant-loop-sited
invariant-loop-sited l = All HasWay (take l.sited-index l.found)
