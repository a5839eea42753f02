use Rattle.std.proofs.Common.{List, map, subst, sym}
use Rattle.std.proofs.lemmas.Result.{IfErr-weaker, IfOk-weaker}
use Rattle.project_files.specs.Kept.{files_of, tree_file}
use Rattle.project_files.specs.Project.{AreProject}
use Rattle.project_files.specs.declared.reading.ReadFile.{ReadFile}
use Rattle.project_judge.proofs.Answering.{answers_on, cause_on}
use Rattle.project_judge.proofs.project.judge_project.Goals as goal

pub returns-in-Ok-clause-answers : goal.returns-in-Ok-clause-answers
returns-in-Ok-clause-answers c =
    let files = files_of c.args.files.now in
    let trees = map tree_file c.as_slice.result.now in
    let P : List ReadFile → Type 0 = λ l. AreProject files (map tree_file l) in
    let project = subst P (sym c.as_slice.ensures.value) c.in-Ok.ensures.project in
    IfOk-weaker c.judge_read.result _ _ (λ answers holds. answers_on files trees answers project (holds project.apart)) c.judge_read.ensures.answers

pub returns-in-Ok-clause-cause : goal.returns-in-Ok-clause-cause
returns-in-Ok-clause-cause c =
    let files = files_of c.args.files.now in
    let trees = map tree_file c.as_slice.result.now in
    let P : List ReadFile → Type 0 = λ l. AreProject files (map tree_file l) in
    let project = subst P (sym c.as_slice.ensures.value) c.in-Ok.ensures.project in
    IfErr-weaker c.judge_read.result _ _ (λ error fault. cause_on files trees error project (fault project.apart)) c.judge_read.ensures.cause
