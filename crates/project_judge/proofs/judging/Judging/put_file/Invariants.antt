use Rattle.std.proofs.Common.{◌≡◌, ℕ, List, ◌++◌, take}
use Rattle.std.specs.Prelude.{All}
use Rattle.project_judge.specs.Judged.{AreJudged}
use Rattle.project_judge.specs.Surfaced.{IsSurfaced}
use Rattle.project_judge.specs.Units.{UnitAt, units_in}
use Rattle.project_judge.proofs.judging.Judging.put_file.Given as goal

-- the types so far are judged
abbrev pub invariant-loop-class : goal.invariant-loop-class
invariant-loop-class l = record {
  put : (units : List UnitAt) (n : ℕ) → All (IsSurfaced l.surfaces) l.read.tree.types → AreJudged l.surfaces units n l.fn.self
      → AreJudged l.surfaces (units ++ units_in l.file l.read.file.text.now (take l.class-index l.class-items)) n l.self;
  same : l.lines.text.now ≡ l.read.file.text.now;
}
