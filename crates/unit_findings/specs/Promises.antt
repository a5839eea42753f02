-- The findings that the promises of a unit give by themselves.
use Rattle.std.specs.Prelude.{ℕ, List, [], ◌∷◌, Option, Some, None, map}
use Rattle.std.specs.List.{filter_map}
use Rattle.desk_base.specs.Key.{name_text}
use Rattle.desk_base.specs.declared.key.PromiseName.TheVariants as kind
use Rattle.desk_base.specs.declared.key.PromiseKey.{PromiseKey}
use Rattle.result_records.specs.declared.code.FindingCode.{FindingCode}
use Rattle.result_records.specs.declared.code.FindingCode.TheVariants as code
use Rattle.result_records.specs.declared.finding.Finding.{Finding}
use Rattle.result_records.specs.declared.finding.FindingLink.{FindingLink}
use Rattle.result_records.specs.declared.finding.FindingLink.TheVariants as link
use Rattle.unit_findings.specs.declared.promise.UnitPromise.{UnitPromise}

abbrev pub program_key : PromiseKey
program_key = record { target = []; name = kind.Program; detail = [] }

-- one way, which has one link
abbrev pub only : FindingLink → List (List FindingLink)
only l = (l ∷ []) ∷ []

-- a finding on a promise of the unit, which isn't numbered yet; its subject is the promise's kind
abbrev pub finding_on : List ℕ → FindingCode → PromiseKey → ℕ → List (List FindingLink) → Finding
finding_on unit kind on place alternatives = record {
  key = record { code = kind; number = 0; unit = unit; on = on };
  place = place;
  subject = name_text on.name;
  alternatives = alternatives;
}

-- a promise rests on `Program`, wherever it is written
abbrev pub standing_finding : List ℕ → PromiseKey → Finding
standing_finding unit on = finding_on unit code.Standing on 1 (only (link.Promise program_key))

-- one for each promise, set aside or not
abbrev pub standing_findings : List ℕ → List UnitPromise → List Finding
standing_findings unit promises = map (λ (p : UnitPromise). standing_finding unit p.key) promises

-- one that is set aside fails
abbrev pub aside_finding : List ℕ → FindingCode → UnitPromise → Finding
aside_finding unit fault promise = finding_on unit fault promise.key promise.place []

abbrev pub aside_if : List ℕ → UnitPromise → Option FindingCode → Option Finding
aside_if unit promise None = None
aside_if unit promise (Some fault) = Some (aside_finding unit fault promise)

abbrev pub aside_of : List ℕ → UnitPromise → Option Finding
aside_of unit promise = aside_if unit promise promise.fault

-- one for each promise that is set aside
abbrev pub aside_findings : List ℕ → List UnitPromise → List Finding
aside_findings unit promises = filter_map (aside_of unit) promises
