-- How one verdict and one failing finding are printed.
use Rattle.std.specs.Prelude.{ℕ, List, [], ◌++◌, Option, Some, None, Bool, true, false, if◌then◌else◌, codes, decimal}
use Rattle.desk_base.specs.declared.key.PromiseName.{PromiseName}
use Rattle.desk_base.specs.declared.key.PromiseName.TheVariants as kind
use Rattle.result_records.specs.Code.{finding_text}
use Rattle.result_records.specs.Keys.{promise_bytes, key_bytes}
use Rattle.result_records.specs.declared.finding.FindingKey.{FindingKey}
use Rattle.result_records.specs.declared.finding.FindingLink.{FindingLink}
use Rattle.result_records.specs.declared.finding.FindingLink.TheVariants as link
use Rattle.result_records.specs.declared.finding.VouchKey.{VouchKey}
use Rattle.result_records.specs.declared.finding.VouchKey.TheVariants as vouch
use Rattle.consistency.specs.Verdict.{verdict_word}
use Rattle.consistency.specs.declared.verdict.Verdict.{Verdict}
use Rattle.consistency.specs.declared.verdict.Verdict.TheVariants as verdict
use Rattle.report.specs.declared.answers.VerdictRow.{VerdictRow}
use Rattle.report.specs.declared.answers.FindingRow.{FindingRow}

-- the row is that of `Program`, which is the project itself and no promise of it
abbrev pub is_program_name : PromiseName → Bool
is_program_name kind.Program = true
is_program_name name = false

abbrev pub is_program : VerdictRow → Bool
is_program row = is_program_name row.key.name

abbrev pub is_promise : VerdictRow → Bool
is_promise row = if is_program row then false else true

-- how a vouch is named: by the unit where it is written, or by the finding that it was given for
abbrev pub vouch_bytes : VouchKey → List ℕ
vouch_bytes (vouch.Source unit) = codes "vouch-in " ++ unit
vouch_bytes (vouch.Desk finding) = codes "vouch-desk " ++ finding

-- how what a promise rests on is named; a promise, which is never a leaf, by its key
abbrev pub link_bytes : FindingLink → List ℕ
link_bytes (link.Promise key) = promise_bytes key
link_bytes (link.Vouched key) = vouch_bytes key
link_bytes (link.Assumed class promise) = codes "assume-in " ++ class ++ codes " " ++ promise_bytes promise

-- nothing where no leaf is named
abbrev pub rests_part : Option FindingLink → List ℕ
rests_part None = []
rests_part (Some leaf) = codes " rests " ++ link_bytes leaf

-- nothing where no finding is named
abbrev pub blame_part : Option FindingKey → List ℕ
blame_part None = []
blame_part (Some finding) = codes " blame " ++ key_bytes finding

-- why the verdict isn't firm: what it rests on, or what is to blame
abbrev pub reason_part : Verdict → Option FindingKey → Option FindingLink → List ℕ
reason_part verdict.Firm blame leaf = []
reason_part verdict.Contingent blame leaf = rests_part leaf
reason_part verdict.Inconsistent blame leaf = blame_part blame

-- the verdict and what it is on: `program VERDICT`, or `VERDICT KEY` for a promise
abbrev pub verdict_part : VerdictRow → List ℕ
verdict_part row =
    if is_program row
    then codes "program " ++ verdict_word row.verdict
    else verdict_word row.verdict ++ codes " " ++ promise_bytes row.key

-- the line of a verdict, with its line feed
abbrev pub verdict_bytes : VerdictRow → List ℕ
verdict_bytes row = verdict_part row ++ reason_part row.verdict row.blame row.leaf ++ codes "\n"

-- the line of a failing finding, with its line feed: `finding KEY at PATH:LINE TEXT: SUBJECT`
abbrev pub finding_bytes : FindingRow → List ℕ
finding_bytes row =
    codes "finding " ++ key_bytes row.finding.key ++ codes " at " ++ row.path ++ codes ":" ++ decimal row.line
    ++ codes " " ++ finding_text row.finding.key.code ++ codes ": " ++ row.finding.subject ++ codes "\n"
