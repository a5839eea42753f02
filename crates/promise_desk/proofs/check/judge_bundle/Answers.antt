use Rattle.std.proofs.Common.{List, subst}
use Rattle.bundle.specs.declared.entry.FileEntry.{FileEntry}
use Rattle.project_files.specs.Kept.{files_of}
use Rattle.project_files.specs.Trees.{types_of}
use Rattle.project_surfaces.specs.Fit.{FirstUnfit}
use Rattle.project_judge.specs.Project.{IsPassed, Read}
use Rattle.promise_desk.proofs.Files.{limit_ends, unfit_ends}
use Rattle.promise_desk.proofs.check.judge_bundle.Goals as goal

pub returns-in-Err-Limit : goal.returns-in-Err-Limit
returns-in-Err-Limit c =
    let P : List FileEntry → Type 0 = λ l. IsPassed (files_of l) c.in-Err-Limit.which in
    let passed = subst P c.as_slice.ensures.value (rw c.in-Err-Limit.field-0-is at c.in-Err-Limit.ensures.cause) in
    limit_ends c.args.bytes.now (files_of c.in-Ok.files.items) c.in-Err-Limit.which c.past_limit.result (record { bundle = c.in-Ok.ensures.files; few = c.requires }) passed c.past_limit.ensures

pub returns-in-Err-Unfit : goal.returns-in-Err-Unfit
returns-in-Err-Unfit c =
    let path = c.in-Err-Unfit.path.now in
    let P : List FileEntry → Type 0 = λ l. Read (files_of l) (λ trees. FirstUnfit (types_of trees) path) in
    let first = subst P c.as_slice.ensures.value (rw c.in-Err-Unfit.field-0-is at c.in-Err-Unfit.ensures.cause) in
    unfit_ends c.args.bytes.now (files_of c.in-Ok.files.items) path c.unfit.result (record { bundle = c.in-Ok.ensures.files; few = c.requires }) first c.unfit.ensures
