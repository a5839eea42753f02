-- How a run ends, as plain data.
use Rattle.std.specs.Prelude.{◌≡◌, ◌⊎◌, ℕ, List, [], Bool, true, false, Option, Some, IfSome}
use Rattle.report.specs.declared.answers.Answers.{Answers}
use Rattle.promise_desk.specs.declared.check.Text.{Text}
use Rattle.promise_desk.specs.declared.check.Text.TheVariants.{Fixed, Made}
use Rattle.promise_desk.specs.declared.check.Ending.{Ending}
use Rattle.promise_desk.specs.declared.status.Status.{Status}
use Rattle.promise_desk.specs.declared.status.Status.TheVariants as status
use Rattle.promise_desk.specs.Check.{Checks, is_inconsistent}
use Rattle.promise_desk.specs.Status.{fixed_line}

-- the text's bytes
abbrev pub text_of : Text → List ℕ
text_of (Fixed text) = text.now
text_of (Made bytes) = bytes

abbrev pub status_with : Bool → Status
status_with true = status.Inconsistent
status_with false = status.Consistent

abbrev pub status_of : Answers → Status
status_of answers = status_with (is_inconsistent answers)

-- the ending is what a check of the bytes answers
abbrev pub EndsAs : List ℕ → Ending → Type 0
EndsAs bytes ending = Checks bytes ending.status (text_of ending.text)

-- a report was made
abbrev pub IsReport : Status → Type 0
IsReport status.Consistent = Unit {0}
IsReport status.Inconsistent = Unit {0}
IsReport other = ⊥

-- How the reading and judging of an input ends: from what was left of it before and after, and
-- whether its count of faults rose. But where there is too much of it, all of the input was read.
abbrev pub CheckEnds : Option (List ℕ) → Option (List ℕ) → Type 0 → Status → List ℕ → Type 0
CheckEnds left after rose status.Usage text = ⊥
CheckEnds left after rose status.OutputFault text = ⊥
CheckEnds left after rose status.InputFault text = rose × (text ≡ fixed_line status.InputFault)
CheckEnds left after rose status.Memory text = text ≡ fixed_line status.Memory
CheckEnds left after rose status.Limit text = IfSome left (λ bytes. Checks bytes status.Limit text)
CheckEnds left after rose other text = IfSome left (λ bytes. Checks bytes other text × (after ≡ Some []))

-- how a run ends but for the writing: the words decide first
abbrev pub RunEnds : Type 0 → Option (List ℕ) → Option (List ℕ) → Type 0 → Status → List ℕ → Type 0
RunEnds check left after rose status.Usage text = (check → ⊥) × (text ≡ fixed_line status.Usage)
RunEnds check left after rose other text = check × CheckEnds left after rose other text

-- an exit status of a report, or of want of memory
abbrev pub IsReportOrMemory : ℕ → Type 0
IsReportOrMemory code = (code ≡ 0) ⊎ ((code ≡ 1) ⊎ (code ≡ 11))
