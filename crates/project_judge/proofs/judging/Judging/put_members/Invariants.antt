use Rattle.std.proofs.Common.{◌≡◌, ℕ, List, ◌++◌, take}
use Rattle.promise_scrub.specs.declared.surface.Surface.{Surface}
use Rattle.project_judge.specs.Judged.{AreJudged, IsAt}
use Rattle.project_judge.specs.Units.{UnitAt, member_units}
use Rattle.project_judge.proofs.judging.Judging.put_members.Given as goal

-- the members so far are judged
abbrev pub invariant-loop-i : goal.invariant-loop-i
invariant-loop-i l = record {
  put : (surfaces : List Surface) (units : List UnitAt) (n : ℕ) → IsAt surfaces l.at → AreJudged surfaces units n l.fn.self
      → AreJudged surfaces (units ++ member_units l.at.file l.fn.lines.text.now l.at.class.now l.keys (take l.i l.members)) n l.self;
  same : l.lines.text.now ≡ l.fn.lines.text.now;
}
