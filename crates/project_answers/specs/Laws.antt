-- What answers are like, whatever the project.
use Rattle.std.specs.Prelude.{◌≡◌, true, false, List, Option, Some, None, All, Contains, map}
use Rattle.desk_base.specs.declared.key.PromiseKey.{PromiseKey}
use Rattle.result_records.specs.declared.code.FindingCode.{FindingCode}
use Rattle.result_records.specs.declared.finding.Finding.{Finding}
use Rattle.result_records.specs.declared.finding.FindingKey.{FindingKey}
use Rattle.consistency.specs.Among.{FindingsAmong}
use Rattle.consistency.specs.declared.verdict.Verdict.{Verdict}
use Rattle.consistency.specs.declared.verdict.Verdict.TheVariants as verdict
use Rattle.report.specs.declared.answers.FindingRow.{FindingRow}
use Rattle.report.specs.declared.answers.VerdictRow.{VerdictRow}
use Rattle.unit_findings.specs.Vouches.{has_no_way}
use Rattle.unit_findings.specs.declared.promise.UnitPromise.{UnitPromise}
use Rattle.project_answers.specs.declared.gather.UnitFound.{UnitFound}
use Rattle.project_answers.specs.declared.sited.Sited.{Sited}
use Rattle.project_answers.specs.Gathered.{finding_of, is_standing, is_standing_code}

-- that a promise is one of the project isn't by itself a failure
abbrev pub HasWay : Sited → Type 0
HasWay s = is_standing s ≡ true → has_no_way s.finding.alternatives ≡ false

abbrev pub FindingHasWay : Finding → Type 0
FindingHasWay f = is_standing_code f.key.code ≡ true → has_no_way f.alternatives ≡ false

-- the rule that a promise breaks isn't that it stands
abbrev pub IsFaulted : UnitPromise → Type 0
IsFaulted p = (fault : FindingCode) → p.fault ≡ Some fault → is_standing_code fault ≡ false

abbrev pub UnitHasWays : UnitFound → Type 0
UnitHasWays u = All HasWay u.found.items

-- the finding has a row, and fails there
pub record HasFailingRow (rows : List FindingRow) (b : FindingKey) : Type 0 where
  pub row : FindingRow
  pub among : Contains rows row
  pub named : row.finding.key ≡ b
  pub fails : row.fails ≡ true

abbrev pub BlameIsRow : List FindingRow → Verdict → Option FindingKey → Type 0
BlameIsRow rows verdict.Firm blame = Unit {0}
BlameIsRow rows verdict.Contingent blame = Unit {0}
BlameIsRow rows verdict.Inconsistent None = ⊥
BlameIsRow rows verdict.Inconsistent (Some b) = HasFailingRow rows b

-- an inconsistent verdict is blamed on a finding that has a row, and fails there
abbrev pub IsBlamedByRow : List FindingRow → VerdictRow → Type 0
IsBlamedByRow rows row = BlameIsRow rows row.verdict row.blame

abbrev pub PromiseAmong : List PromiseKey → UnitPromise → Type 0
PromiseAmong ps p = Contains ps p.key

-- the findings of the unit speak of these promises alone
abbrev pub UnitAmong : List PromiseKey → UnitFound → Type 0
UnitAmong ps u = FindingsAmong ps (map finding_of u.found.items)
