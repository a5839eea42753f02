use Rattle.std.proofs.Common.{map, take}
use Rattle.consistency.specs.Among.{FindingsAmong}
use Rattle.project_answers.specs.Gathered.{finding_of}
use Rattle.project_judge.proofs.sound.are_among.Given as goal

-- the findings so far
abbrev pub invariant-loop-sited : goal.invariant-loop-sited
invariant-loop-sited l = FindingsAmong l.promises (map finding_of (take l.sited-index l.found))
