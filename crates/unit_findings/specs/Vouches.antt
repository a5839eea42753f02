-- Vouches that are written in the source.
use Rattle.std.specs.Prelude.{ℕ, Bool, true, false, ◌&&◌, not, List, [], ◌∷◌, Option, Some, None, if◌then◌else◌}
use Rattle.desk_base.specs.declared.key.PromiseName.{PromiseName}
use Rattle.desk_base.specs.declared.key.PromiseName.TheVariants as kind
use Rattle.result_records.specs.declared.finding.Finding.{Finding}
use Rattle.result_records.specs.declared.finding.FindingLink.{FindingLink}
use Rattle.result_records.specs.declared.finding.FindingLink.TheVariants as link
use Rattle.result_records.specs.declared.finding.VouchKey.TheVariants as vouch
use Rattle.unit_findings.specs.Promises.{only}

-- A vouch in a unit counts there, one in the header in all units of the class that have none.
abbrev pub source_vouch : List ℕ → Bool → List ℕ → Bool → Option (List ℕ)
source_vouch unit true header header_is_vouched = Some unit
source_vouch unit false header true = Some header
source_vouch unit false header false = None

abbrev pub is_program : PromiseName → Bool
is_program kind.Program = true
is_program name = false

abbrev pub has_no_way : List (List FindingLink) → Bool
has_no_way [] = true
has_no_way (way ∷ ways) = false

-- what fails, and isn't found on `Program`
abbrev pub takes_vouch : Finding → Bool
takes_vouch finding = has_no_way finding.alternatives && not (is_program finding.key.on.name)

-- the finding where the vouch of a unit counts
abbrev pub vouched : Option (List ℕ) → Finding → Finding
vouched None finding = finding
vouched (Some unit) finding =
    if takes_vouch finding
    then record finding { alternatives = only (link.Vouched (vouch.Source unit)) }
    else finding
