-- What is limited of a project's findings.
use Rattle.std.specs.Prelude.{ℕ, Bool, true, false, nat_lt, List, length, count_by, Option, Some, None, if◌then◌else◌}
use Rattle.std.specs.List.{sum_by}
use Rattle.desk_base.specs.Limit.{limit_max}
use Rattle.desk_base.specs.declared.limit.LimitName.{LimitName}
use Rattle.desk_base.specs.declared.limit.LimitName.TheVariants as limit
use Rattle.result_records.specs.declared.code.FindingCode.{FindingCode}
use Rattle.result_records.specs.declared.code.FindingCode.TheVariants as code
use Rattle.result_records.specs.declared.finding.Finding.{Finding}

abbrev pub is_standing : FindingCode → Bool
is_standing code.Standing = true
is_standing kind = false

-- A finding is counted where it says more than that a promise stands.
abbrev pub is_counted : Finding → Bool
is_counted finding = if is_standing finding.key.code then false else true

abbrev pub finding_count : List Finding → ℕ
finding_count findings = count_by is_counted findings

-- the links of all alternatives of a finding that is counted, each time that they stand there
abbrev pub counted_links : Finding → ℕ
counted_links finding = if is_counted finding then sum_by length finding.alternatives else 0

abbrev pub link_count : List Finding → ℕ
link_count findings = sum_by counted_links findings

-- the first limit that is passed, of promises, findings and links
abbrev pub passed_limit : ℕ → List Finding → Option LimitName
passed_limit promises findings =
    if nat_lt (limit_max limit.Promises) promises then Some limit.Promises else
    (if nat_lt (limit_max limit.Findings) (finding_count findings) then Some limit.Findings else
    (if nat_lt (limit_max limit.Links) (link_count findings) then Some limit.Links else None))
