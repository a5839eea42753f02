use Rattle.std.proofs.Common.{List, map, refl, subst}
use Rattle.std.specs.Prelude.{All}
use Rattle.std.proofs.lemmas.Result.{IfOk-weaker}
use Rattle.consistency.specs.Among.{FindingsAmong}
use Rattle.project_answers.specs.Gathered.{finding_of}
use Rattle.project_answers.specs.Laws.{HasWay}
use Rattle.project_answers.specs.declared.sited.Sited.{Sited}
use Rattle.project_judge.proofs.answer.answers_on.Goals as goal

pub project_answers-requires-clause-among : goal.project_answers-requires-clause-among
project_answers-requires-clause-among c =
    let P : List Sited → Type 0 = λ l. FindingsAmong c.args.promises.now (map finding_of l) in
    subst P c.as_slice.ensures.value (c.if-not-are_among.ensures refl)

pub returns-clause-blamed : goal.returns-clause-blamed
returns-clause-blamed c =
    let P : List Sited → Type 0 = λ l. All HasWay l in
    IfOk-weaker c.project_answers.result _ _
    (λ answers are. c.blames_are_rows.ensures c.args.sizes c.args.paths.now c.args.promises.now c.args.found.items answers are (subst P c.as_slice-else-not-are_among.ensures.value (c.if-not-have_ways.ensures refl)))
    c.project_answers.ensures
