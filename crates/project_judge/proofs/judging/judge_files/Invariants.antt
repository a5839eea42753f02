use Rattle.std.proofs.Common.{map, take}
use Rattle.project_files.specs.Kept.{tree_file}
use Rattle.project_judge.specs.Judged.{AreJudged}
use Rattle.project_judge.specs.Surfaced.{AreSurfaced}
use Rattle.project_judge.specs.Units.{all_units}
use Rattle.project_judge.proofs.judging.judge_files.Given as goal

-- the files so far are judged
abbrev pub invariant-loop-i : goal.invariant-loop-i
invariant-loop-i l = AreSurfaced l.surfaces (map tree_file l.read) → AreJudged l.surfaces (all_units (map tree_file (take l.i l.read))) l.promises l.judging
