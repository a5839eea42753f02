-- What a check of some bytes answers.
use Rattle.std.specs.Prelude.{◌≡◌, ◌⊎◌, ℕ, ◌<◌, ◌≤◌, Bool, true, false, List, None, All, length}
use Rattle.std.specs.List.{list_any}
use Rattle.desk_base.specs.declared.limit.LimitName.{LimitName}
use Rattle.desk_base.specs.declared.limit.LimitName.TheVariants as limit
use Rattle.bundle.specs.Entry.{Entry}
use Rattle.bundle.specs.Bundle.{IsBundle, BadAt}
use Rattle.report.specs.declared.answers.Answers.{Answers}
use Rattle.consistency.specs.declared.verdict.Verdict.TheVariants as verdict
use Rattle.report.specs.Report.{report_bytes, same_verdict}
use Rattle.java_reader.specs.declared.error.ReadError.{ReadError}
use Rattle.project_answers.specs.Laws.{IsBlamedByRow}
use Rattle.project_files.specs.Limits.{passed_limit}
use Rattle.project_files.specs.Project.{Taken}
use Rattle.project_files.specs.Trees.{IsUnread, types_of}
use Rattle.project_files.specs.Repeats.{FirstRepeat}
use Rattle.project_surfaces.specs.Fit.{FirstUnfit}
use Rattle.project_judge.specs.Project.{AnswersOn, IsPassed, Read}
use Rattle.promise_desk.specs.Intake.{most_bytes}
use Rattle.promise_desk.specs.declared.status.Status.{Status}
use Rattle.promise_desk.specs.declared.status.Status.TheVariants as status
use Rattle.promise_desk.specs.Status.{bad_bundle_line, unread_line, unfit_line, duplicate_line, limit_line}

-- some verdict, that on `Program` among them, is inconsistent
abbrev pub is_inconsistent : Answers → Bool
is_inconsistent answers = list_any (λ row. same_verdict row.verdict verdict.Inconsistent) answers.verdicts

-- each inconsistent verdict is blamed on a finding that has a row, and fails there
abbrev pub NamesRows : Answers → Type 0
NamesRows answers = All (IsBlamedByRow answers.findings) answers.verdicts

-- the bytes are a bundle of these files, and no more bytes than are taken
pub record IsTaken (files : List Entry) (bytes : List ℕ) : Type 0 where
  pub bundle : IsBundle files bytes
  pub few : length bytes ≤ most_bytes

-- the answers on the bundle that the bytes are
pub record AnswersOf (bytes : List ℕ) (answers : Answers) : Type 0 where
  pub files : List Entry
  pub taken : IsTaken files bytes
  pub answered : AnswersOn files answers

-- the bytes are a bundle within the limits, and this is the path of the first file, in order of paths,
-- that isn't read, and why
pub record UnreadOf (bytes path : List ℕ) (error : ReadError) : Type 0 where
  pub files : List Entry
  pub taken : IsTaken files bytes
  pub within : passed_limit files ≡ None
  pub first : IsUnread files path error

-- the bytes are a bundle of files that are a project, and this is the path of the first type of theirs that
-- isn't judged so far
pub record UnfitOf (bytes path : List ℕ) : Type 0 where
  pub files : List Entry
  pub taken : IsTaken files bytes
  pub first : Read files (λ trees. FirstUnfit (types_of trees) path)

-- the bytes are a bundle of files that are read, and this is the first type whose name is used before
pub record RepeatOf (bytes name first second : List ℕ) : Type 0 where
  pub files : List Entry
  pub taken : IsTaken files bytes
  pub repeat : Taken files (λ trees. FirstRepeat (types_of trees) name first second)

-- the bytes are not too many, and the first place at which they are no bundle
pub record BadOf (bytes : List ℕ) (at : ℕ) : Type 0 where
  pub few : length bytes ≤ most_bytes
  pub bad : BadAt bytes at

-- there are more bytes than are taken, or they are a bundle whose files pass this limit
abbrev pub PassedOf : List ℕ → LimitName → Type 0
PassedOf bytes which =
    ((which ≡ limit.BundleBytes) × (most_bytes < length bytes))
    ⊎ ((files : List Entry) × IsTaken files bytes × IsPassed files which)

-- a file of the bundle isn't read, or has a type that isn't judged so far, and the line says so
abbrev pub IsUnreadable : List ℕ → List ℕ → Type 0
IsUnreadable bytes text =
    ((path : List ℕ) × (error : ReadError) × UnreadOf bytes path error × (text ≡ unread_line path error))
    ⊎ ((path : List ℕ) × UnfitOf bytes path × (text ≡ unfit_line path))

-- what a check of the bytes ends with and writes, want of memory aside
abbrev pub Checks : List ℕ → Status → List ℕ → Type 0
Checks bytes status.Consistent text = (answers : Answers) × AnswersOf bytes answers × NamesRows answers × (is_inconsistent answers ≡ false) × (text ≡ report_bytes answers)
Checks bytes status.Inconsistent text = (answers : Answers) × AnswersOf bytes answers × NamesRows answers × (is_inconsistent answers ≡ true) × (text ≡ report_bytes answers)
Checks bytes status.BadBundle text = (at : ℕ) × BadOf bytes at × (text ≡ bad_bundle_line at)
Checks bytes status.Unreadable text = IsUnreadable bytes text
Checks bytes status.DuplicateType text = (name : List ℕ) × (first : List ℕ) × (second : List ℕ) × RepeatOf bytes name first second × (text ≡ duplicate_line name first second)
Checks bytes status.Limit text = (which : LimitName) × PassedOf bytes which × (text ≡ limit_line which)
Checks bytes other text = ⊥
