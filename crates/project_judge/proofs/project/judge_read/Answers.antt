use Rattle.std.proofs.Common.{Option, List, ℕ, map, subst}
use Rattle.std.specs.Borrow.{Bor}
use Rattle.std.proofs.lemmas.Result.{IfErr-weaker, IfOk-weaker}
use Rattle.project_files.specs.Kept.{tree_file}
use Rattle.project_files.specs.Trees.{types_of}
use Rattle.project_surfaces.specs.Gathered.{UnfitOf}
use Rattle.project_judge.proofs.Answering.{fit_of}
use Rattle.project_judge.proofs.project.judge_read.Goals as goal

pub returns-in-Some-clause-cause : goal.returns-in-Some-clause-cause
returns-in-Some-clause-cause c apart =
    let P : Option (Bor (List ℕ)) → Type 0 = λ o. UnfitOf (types_of (map tree_file c.args.read.now)) o in
    subst P c.in-Some.is (c.in_ok-made.ensures apart).form

pub returns-clause-answers : goal.returns-clause-answers
returns-clause-answers c =
    let types = types_of (map tree_file c.args.read.now) in
    IfOk-weaker c.judge_fit.result _ _ (λ answers holds apart. holds (c.in_ok-made.ensures apart).surfaces (fit_of types _ c.in-None.is (c.in_ok-made.ensures apart).form)) c.judge_fit.ensures.answers

pub returns-clause-cause : goal.returns-clause-cause
returns-clause-cause c =
    let types = types_of (map tree_file c.args.read.now) in
    IfErr-weaker c.judge_fit.result _ _ (λ error holds apart. holds (c.in_ok-made.ensures apart).surfaces (fit_of types _ c.in-None.is (c.in_ok-made.ensures apart).form)) c.judge_fit.ensures.cause
