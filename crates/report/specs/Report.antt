-- The report of a project's answers: its bytes, line by line.
use Rattle.std.specs.Prelude.{ℕ, List, ◌++◌, Bool, true, false, ◌&&◌, filter, count_by, length, codes, decimal}
use Rattle.std.specs.List.{flat_map}
use Rattle.report.specs.Rows.{is_program, is_promise, verdict_bytes, finding_bytes}
use Rattle.consistency.specs.declared.verdict.Verdict.{Verdict}
use Rattle.consistency.specs.declared.verdict.Verdict.TheVariants as verdict
use Rattle.report.specs.declared.answers.VerdictRow.{VerdictRow}
use Rattle.report.specs.declared.answers.FindingRow.{FindingRow}
use Rattle.report.specs.declared.answers.Answers.{Answers}

abbrev pub same_verdict : Verdict → Verdict → Bool
same_verdict verdict.Firm verdict.Firm = true
same_verdict verdict.Contingent verdict.Contingent = true
same_verdict verdict.Inconsistent verdict.Inconsistent = true
same_verdict one other = false

-- the row is that of a promise with this verdict; `Program` is no promise
abbrev pub has_verdict : Verdict → VerdictRow → Bool
has_verdict verdict row = is_promise row && same_verdict row.verdict verdict

abbrev pub fails_row : FindingRow → Bool
fails_row row = row.fails

-- a label, and a number in decimals
unfoldable pub count_part : List ℕ → ℕ → List ℕ
count_part label number = label ++ decimal number

-- the same as a line
unfoldable pub count_line : List ℕ → ℕ → List ℕ
count_line label number = count_part label number ++ codes "\n"

-- `report 1`, `files F` and `types T`
abbrev pub size_lines : Answers → List ℕ
size_lines answers =
    codes "report 1\n" ++ count_line (codes "files ") answers.files ++ count_line (codes "types ") answers.types

-- `promises P firm A contingent B inconsistent D`
abbrev pub promise_counts : List VerdictRow → List ℕ
promise_counts rows =
    count_part (codes "promises ") (count_by is_promise rows)
    ++ count_part (codes " firm ") (count_by (has_verdict verdict.Firm) rows)
    ++ count_part (codes " contingent ") (count_by (has_verdict verdict.Contingent) rows)
    ++ count_part (codes " inconsistent ") (count_by (has_verdict verdict.Inconsistent) rows)
    ++ codes "\n"

-- `findings N failing M`
abbrev pub finding_counts : List FindingRow → List ℕ
finding_counts rows =
    count_part (codes "findings ") (length rows) ++ count_part (codes " failing ") (count_by fails_row rows) ++ codes "\n"

-- the line of `Program`
abbrev pub program_lines : List VerdictRow → List ℕ
program_lines rows = flat_map verdict_bytes (filter is_program rows)

-- a line for each promise
abbrev pub promise_lines : List VerdictRow → List ℕ
promise_lines rows = flat_map verdict_bytes (filter is_promise rows)

-- a line for each failing finding
abbrev pub failing_lines : List FindingRow → List ℕ
failing_lines rows = flat_map finding_bytes (filter fails_row rows)

-- the report whole
abbrev pub report_bytes : Answers → List ℕ
report_bytes answers =
    size_lines answers
    ++ program_lines answers.verdicts
    ++ promise_counts answers.verdicts
    ++ finding_counts answers.findings
    ++ promise_lines answers.verdicts
    ++ failing_lines answers.findings
    ++ codes "end\n"
