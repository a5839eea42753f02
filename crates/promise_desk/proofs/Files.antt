-- One ending for the bundle that some bytes are.
use Rattle.std.proofs.Common.{◌≡◌, inl, inr, ℕ, Bool, true, false, List, [], refl, sym, subst, arith, Option, Some, None, Result, Ok, Err, IfOk}
use Rattle.std.specs.Option.{IfSome}
use Rattle.std.specs.Result.{result_unwrap_or}
use Rattle.bundle.specs.Entry.{Entry}
use Rattle.bundle.specs.Bundle.{IsBundle}
use Rattle.bundle.proofs.Whole.{bad_no_bundle}
use Rattle.desk_base.specs.declared.limit.LimitName.{LimitName}
use Rattle.desk_base.specs.declared.limit.LimitName.TheVariants as limit
use Rattle.desk_base.specs.declared.memory.OutOfMemory.{OutOfMemory}
use Rattle.report.specs.declared.answers.Answers.{Answers}
use Rattle.report.specs.Report.{report_bytes}
use Rattle.project_files.specs.Project.{PathsDiffer}
use Rattle.project_files.specs.Trees.{types_of}
use Rattle.project_surfaces.specs.Fit.{FirstUnfit}
use Rattle.project_judge.specs.Project.{AnswersOn, IsCauseOf, IsPassed, Read}
use Rattle.project_judge.specs.declared.error.ProjectError.{ProjectError}
use Rattle.project_judge.specs.declared.error.ProjectError.TheVariants as error
use Rattle.promise_desk.specs.declared.status.Status.{Status}
use Rattle.promise_desk.specs.declared.status.Status.TheVariants as status
use Rattle.promise_desk.specs.Check.{AnswersOf, Checks, IsTaken, NamesRows, is_inconsistent}
use Rattle.promise_desk.specs.declared.check.Ending.{Ending}
use Rattle.promise_desk.specs.Intake.{WasRead, WasTooLong}
use Rattle.promise_desk.specs.Status.{code_of, fixed_line, limit_line, unfit_line}
use Rattle.promise_desk.specs.Endings.{EndsAs, text_of, status_of, status_with, CheckEnds, IsReport, RunEnds, IsReportOrMemory}

report_by : (bytes : List ℕ) (answers : Answers) (text : List ℕ) (b : Bool) → is_inconsistent answers ≡ b → AnswersOf bytes answers → NamesRows answers → text ≡ report_bytes answers
    → Checks bytes (status_with b) text
report_by bytes answers text true is of named same = (answers, of, named, is, same)
report_by bytes answers text false is of named same = (answers, of, named, is, same)

-- a report of the answers is what a check gives
pub report_checks : (bytes : List ℕ) (answers : Answers) (s : Status) (text : List ℕ) → AnswersOf bytes answers → NamesRows answers → s ≡ status_of answers → text ≡ report_bytes answers → Checks bytes s text
report_checks bytes answers s text of named is same =
    let P : Status → Type 0 = λ x. Checks bytes x text in
    subst P (sym is) (report_by bytes answers text (is_inconsistent answers) refl of named same)

-- the report that is made of the answers
pub report_ends : (bytes : List ℕ) (files : List Entry) (answers : Answers) (r : Result Ending OutOfMemory) → IsTaken files bytes → AnswersOn files answers → NamesRows answers
    → IfOk r (λ e. (e.status ≡ status_of answers) × (text_of e.text ≡ report_bytes answers)) → IfOk r (EndsAs bytes)
report_ends bytes files answers (Ok e) taken answered named made =
    report_checks bytes answers e.status (text_of e.text) (record { files = files; taken = taken; answered = answered }) named made.0 made.1
report_ends bytes files answers (Err e) taken answered named made = tt

-- more bytes than are taken
pub too_long : (left after : Option (List ℕ)) (rose : Type 0) (s : Status) (text : List ℕ) → WasTooLong left → s ≡ status.Limit → text ≡ limit_line limit.BundleBytes → CheckEnds left after rose s text
too_long left after rose s text long is same =
    let P : Status → Type 0 = λ x. CheckEnds left after rose x text in
    subst P (sym is) (long_by left long)
  where
    long_by : (left : Option (List ℕ)) → WasTooLong left → IfSome left (λ bytes. Checks bytes status.Limit text)
    long_by None long = tt
    long_by (Some bytes) long = (limit.BundleBytes, inl (refl, long), same)

-- what a check of all that was left gives
ends_by : (left after : Option (List ℕ)) (rose : Type 0) (bytes : List ℕ) (s : Status) (text : List ℕ) → WasRead left after bytes → Checks bytes s text → CheckEnds left after rose s text
ends_by left after rose bytes status.Usage text read checks = absurd checks
ends_by left after rose bytes status.OutputFault text read checks = absurd checks
ends_by left after rose bytes status.InputFault text read checks = absurd checks
ends_by left after rose bytes status.Memory text read checks = absurd checks
ends_by None after rose bytes status.Limit text read checks = tt
ends_by (Some b) after rose bytes status.Limit text read checks = subst (λ (x : List ℕ). Checks x status.Limit text) (sym read.0) checks
ends_by None after rose bytes status.Consistent text read checks = tt
ends_by (Some b) after rose bytes status.Consistent text read checks = (subst (λ (x : List ℕ). Checks x status.Consistent text) (sym read.0) checks, read.1)
ends_by None after rose bytes status.Inconsistent text read checks = tt
ends_by (Some b) after rose bytes status.Inconsistent text read checks = (subst (λ (x : List ℕ). Checks x status.Inconsistent text) (sym read.0) checks, read.1)
ends_by None after rose bytes status.BadBundle text read checks = tt
ends_by (Some b) after rose bytes status.BadBundle text read checks = (subst (λ (x : List ℕ). Checks x status.BadBundle text) (sym read.0) checks, read.1)
ends_by None after rose bytes status.Unreadable text read checks = tt
ends_by (Some b) after rose bytes status.Unreadable text read checks = (subst (λ (x : List ℕ). Checks x status.Unreadable text) (sym read.0) checks, read.1)
ends_by None after rose bytes status.DuplicateType text read checks = tt
ends_by (Some b) after rose bytes status.DuplicateType text read checks = (subst (λ (x : List ℕ). Checks x status.DuplicateType text) (sym read.0) checks, read.1)

-- what was judged, or the line of want of memory
pub judged_ends : (left after : Option (List ℕ)) (rose : Type 0) (bytes : List ℕ) (r : Result Ending OutOfMemory) (other : Ending) → WasRead left after bytes → IfOk r (EndsAs bytes)
    → other.status ≡ status.Memory → text_of other.text ≡ fixed_line status.Memory → CheckEnds left after rose (result_unwrap_or r other).status (text_of (result_unwrap_or r other).text)
judged_ends left after rose bytes (Ok e) other read made is same = ends_by left after rose bytes e.status (text_of e.text) read made
judged_ends left after rose bytes (Err e) other read made is same = subst (λ (s : Status). CheckEnds left after rose s (text_of other.text)) (sym is) same

-- ---- one ending for a bundle that has answers

-- files that have answers have no cause why they aren't judged
abbrev pub NoCause : Type 0
NoCause = (files : List Entry) (answers : Answers) (e : ProjectError) → PathsDiffer files → AnswersOn files answers → IsCauseOf files e → e ≡ error.OutOfMemory

never : NoCause → (bytes : List ℕ) (answers : Answers) (files : List Entry) (e : ProjectError) → ((first second : List Entry) → IsBundle first bytes → IsBundle second bytes → first ≡ second) → AnswersOf bytes answers
    → IsTaken files bytes → IsCauseOf files e → e ≡ error.OutOfMemory
never none bytes answers files e one of taken cause =
    let P : List Entry → Type 0 = λ l. IsCauseOf l e in
    none of.files answers e of.taken.bundle.good.distinct of.answered (subst P (one files of.files taken.bundle of.taken.bundle) cause)

pub reported : NoCause → (bytes : List ℕ) (answers : Answers) (s : Status) (text : List ℕ) → ((first second : List Entry) → IsBundle first bytes → IsBundle second bytes → first ≡ second) → AnswersOf bytes answers → Checks bytes s text → IsReport s
reported none bytes answers status.Consistent text one of checks = tt
reported none bytes answers status.Inconsistent text one of checks = tt
reported none bytes answers status.BadBundle text one of (at, bad, same) = bad_no_bundle bytes at of.files bad.bad of.taken.bundle
reported none bytes answers status.Unreadable text one of (inl (path, why, unread, same)) =
    let other = never none bytes answers unread.files (error.Unread (record { ref_ptr = (0, 0); now = path }) why) one of unread.taken (unread.within, unread.first) in absurd (cc)
reported none bytes answers status.Unreadable text one of (inr (path, unfit, same)) =
    let other = never none bytes answers unfit.files (error.Unfit (record { ref_ptr = (0, 0); now = path })) one of unfit.taken unfit.first in absurd (cc)
reported none bytes answers status.DuplicateType text one of (name, first, second, r, same) =
    let other = never none bytes answers r.files (error.Repeated name first second) one of r.taken r.repeat in absurd (cc)
reported none bytes answers status.Limit text one of (which, inl (is, long), same) = absurd (omega (arith, of.taken.few))
reported none bytes answers status.Limit text one of (which, inr (files, taken, passed), same) =
    let other = never none bytes answers files (error.Limit which) one of taken passed in absurd (cc)
reported none bytes answers status.Usage text one of checks = absurd checks
reported none bytes answers status.InputFault text one of checks = absurd checks
reported none bytes answers status.OutputFault text one of checks = absurd checks
reported none bytes answers status.Memory text one of checks = absurd checks

-- a run over a bundle that has answers ends with a report, or memory was wanting
pub run_completes : NoCause → (check : Type 0) (left after : Option (List ℕ)) (rose : Type 0) (s : Status) (text bytes : List ℕ) (answers : Answers)
    → ((first second : List Entry) → IsBundle first bytes → IsBundle second bytes → first ≡ second)
    → check → left ≡ Some bytes → AnswersOf bytes answers → ¬ rose → RunEnds check left after rose s text → IsReportOrMemory (code_of s)
run_completes none check left after rose status.Consistent text bytes answers one asked told of quiet ends = inl refl
run_completes none check left after rose status.Inconsistent text bytes answers one asked told of quiet ends = inr (inl refl)
run_completes none check left after rose status.Memory text bytes answers one asked told of quiet ends = inr (inr refl)
run_completes none check left after rose status.Usage text bytes answers one asked told of quiet ends = absurd (ends.0 asked)
run_completes none check left after rose status.InputFault text bytes answers one asked told of quiet ends = absurd (quiet ends.1.0)
run_completes none check left after rose status.OutputFault text bytes answers one asked told of quiet ends = absurd ends.1
run_completes none check left after rose status.Limit text bytes answers one asked told of quiet ends =
    let P : Option (List ℕ) → Type 0 = λ l. IfSome l (λ b. Checks b status.Limit text) in
    absurd (reported none bytes answers status.Limit text one of (subst P told ends.1))
run_completes none check left after rose status.BadBundle text bytes answers one asked told of quiet ends =
    let P : Option (List ℕ) → Type 0 = λ l. IfSome l (λ b. Checks b status.BadBundle text × (after ≡ Some [])) in
    absurd (reported none bytes answers status.BadBundle text one of (subst P told ends.1).0)
run_completes none check left after rose status.Unreadable text bytes answers one asked told of quiet ends =
    let P : Option (List ℕ) → Type 0 = λ l. IfSome l (λ b. Checks b status.Unreadable text × (after ≡ Some [])) in
    absurd (reported none bytes answers status.Unreadable text one of (subst P told ends.1).0)
run_completes none check left after rose status.DuplicateType text bytes answers one asked told of quiet ends =
    let P : Option (List ℕ) → Type 0 = λ l. IfSome l (λ b. Checks b status.DuplicateType text × (after ≡ Some [])) in
    absurd (reported none bytes answers status.DuplicateType text one of (subst P told ends.1).0)

-- the line of a limit that the files pass is what a check gives
pub limit_ends : (bytes : List ℕ) (files : List Entry) (which : LimitName) (r : Result Ending OutOfMemory) → IsTaken files bytes → IsPassed files which
    → IfOk r (λ e. (e.status ≡ status.Limit) × (text_of e.text ≡ limit_line which)) → IfOk r (EndsAs bytes)
limit_ends bytes files which (Ok e) taken passed made =
    let P : Status → Type 0 = λ s. Checks bytes s (text_of e.text) in
    subst P (sym made.0) (which, inr (files, taken, passed), made.1)
limit_ends bytes files which (Err e) taken passed made = tt

-- the line of a file with a type that isn't judged so far
pub unfit_ends : (bytes : List ℕ) (files : List Entry) (path : List ℕ) (r : Result Ending OutOfMemory) → IsTaken files bytes → Read files (λ trees. FirstUnfit (types_of trees) path)
    → IfOk r (λ e. (e.status ≡ status.Unreadable) × (text_of e.text ≡ unfit_line path)) → IfOk r (EndsAs bytes)
unfit_ends bytes files path (Ok e) taken first made =
    let P : Status → Type 0 = λ s. Checks bytes s (text_of e.text) in
    subst P (sym made.0) (inr (path, record { files = files; taken = taken; first = first }, made.1))
unfit_ends bytes files path (Err e) taken first made = tt
