-- Units that are judged, as the code keeps them.
use Rattle.std.specs.Prelude.{◌≡◌, ℕ, List, map}
use Rattle.std.specs.List.{AllZip}
use Rattle.promise_scrub.specs.declared.surface.Surface.{Surface}
use Rattle.finding_limits.specs.Tallied.{Tallies}
use Rattle.project_answers.specs.Gathered.{all_found, finding_of}
use Rattle.project_judge.specs.Found.{IsUnitFound, asides_of, seen_of}
use Rattle.project_judge.specs.Units.{UnitAt}
use Rattle.project_judge.specs.declared.judging.Judging.{Judging}
use Rattle.project_judge.specs.declared.units.ClassAt.{ClassAt}

-- each of these units with what is found in it, and how many promises, findings and links there are
pub record AreJudged (surfaces : List Surface) (units : List UnitAt) (promises : ℕ) (judging : Judging) : Type 0 where
  pub each : AllZip (IsUnitFound surfaces) units judging.units.items
  pub counted : Tallies judging.tally promises (map finding_of (all_found judging.units.items))

-- the class with its view of these surfaces and what its own sets aside
pub record IsAt (surfaces : List Surface) (at : ClassAt) : Type 0 where
  pub view : at.view ≡ seen_of surfaces at.class.now
  pub asides : at.asides.now ≡ asides_of surfaces at.class.now
