-- UnitFound: the findings of a bound unit under a view.
use Rattle.std.specs.Prelude.{ℕ, List, ◌++◌, Option}
use Rattle.class_faces.specs.Keys.{text_of}
use Rattle.promise_scrub.specs.declared.surface.Aside.{Aside}
use Rattle.result_records.specs.declared.finding.Finding.{Finding}
use Rattle.unit_findings.specs.Findings.{unit_findings}
use Rattle.unit_findings.specs.Vouches.{source_vouch}
use Rattle.views.specs.Face.{Face, Seen, face}
use Rattle.views.specs.Looks.{vouched_in}
use Rattle.bound_unit.specs.UnitFacts.{UnitFacts}
use Rattle.lock_check.specs.Judged.{findings}
use Rattle.unit_judge.specs.Promises.{unit_promises}

-- what binding found, and then what the check of locks finds
abbrev pub found : UnitFacts → Seen → List Finding
found u seen = u.findings ++ findings u seen

-- the unit whose vouch counts in a unit of a class with this header
abbrev pub vouch_in : Option Face → (unit header : List ℕ) → Option (List ℕ)
vouch_in shown unit header = source_vouch unit (vouched_in shown unit) header (vouched_in shown header)

-- That its promises are of the project comes first; what is set aside and what was found follows in
-- order, with the vouch where it fails.
abbrev pub unit_found : List Aside → UnitFacts → Seen → List Finding
unit_found asides u seen =
    unit_findings u.key (vouch_in (face seen u.tree.class) u.key (text_of u.tree.class))
    (unit_promises (face seen u.tree.class) u.key u.tree.annotations asides) (found u seen)
