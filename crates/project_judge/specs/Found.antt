-- UnitFound: what is found in a unit of a class under a view.
use Rattle.std.specs.Prelude.{◌≡◌, ℕ, List, [], Option, Some, None, map}
use Rattle.java_tree.specs.declared.file.ClassTree.{ClassTree}
use Rattle.java_tree.specs.declared.member.MemberTree.{MemberTree}
use Rattle.promise_scrub.specs.declared.surface.Aside.{Aside}
use Rattle.promise_scrub.specs.declared.surface.Surface.{Surface}
use Rattle.result_records.specs.declared.finding.Finding.{Finding}
use Rattle.views.specs.Face.{Seen, surface_named}
use Rattle.bound_unit.specs.UnitFacts.{UnitFacts}
use Rattle.binder.specs.Units.{IsBound}
use Rattle.unit_judge.specs.Judged.{unit_found}
use Rattle.project_answers.specs.Lines.{sited}
use Rattle.project_answers.specs.declared.gather.UnitFound.{UnitFound}
use Rattle.project_judge.specs.Units.{UnitAt, unit_tokens}

-- the unit is bound under the view, and these are its findings there, its class setting `asides` aside
pub record IsFound (class : ClassTree) (m : Option MemberTree) (key : List ℕ) (asides : List Aside) (seen : Seen) (findings : List Finding) : Type 0 where
  pub unit : UnitFacts
  pub bound : IsBound class m key seen unit
  pub is : findings ≡ unit_found asides unit seen

-- the same with the places of the findings in the file
pub record IsFoundAt (asides : List Aside) (seen : Seen) (u : UnitAt) (made : UnitFound) : Type 0 where
  pub findings : List Finding
  pub found : IsFound u.class u.member u.key asides seen findings
  pub key : made.key ≡ u.key
  pub placed : made.found.items ≡ map (sited u.file u.text (unit_tokens u.class u.member)) findings

-- the view that a class has of the surfaces of a project
abbrev pub seen_of : List Surface → ClassTree → Seen
seen_of surfaces class = record { surfaces = surfaces; class = class.name.text }

abbrev pub asides_in : Option Surface → List Aside
asides_in None = []
asides_in (Some s) = s.aside

-- what the surface of a class sets aside
abbrev pub asides_of : List Surface → ClassTree → List Aside
asides_of surfaces class = asides_in (surface_named surfaces class.name.text)

-- of a unit of a project with these surfaces
abbrev pub IsUnitFound : List Surface → UnitAt → UnitFound → Type 0
IsUnitFound surfaces u made = IsFoundAt (asides_of surfaces u.class) (seen_of surfaces u.class) u made
