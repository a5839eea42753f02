use Rattle.std.proofs.Common.{List, map, refl, subst, sym, take, take_all}
use Rattle.std.proofs.lemmas.List.Elements.{All-push}
use Rattle.consistency.specs.Among.{FindingAmong, FindingsAmong}
use Rattle.project_answers.specs.Gathered.{finding_of}
use Rattle.project_answers.specs.declared.sited.Sited.{Sited}
use Rattle.project_files.proofs.Lists.{map_more}
use Rattle.project_judge.proofs.sound.are_among.Goals as goal

pub loop-sited-preserved : goal.loop-sited-preserved
loop-sited-preserved c =
    let i = c.loop-sited.sited-index in
    let found = c.args.found.now in
    let one = c.sited-item.result in
    subst (FindingsAmong c.args.promises.now) (sym (map_more finding_of found i one c.loop-sited-test.true c.sited-item.is))
    (All-push (FindingAmong c.args.promises.now) (map finding_of (take i found)) (finding_of one) c.loop-sited.invariant (c.if-not-is_among_whole.ensures refl))

pub returns : goal.returns
returns c so =
    let P : List Sited → Type 0 = λ l. FindingsAmong c.args.promises.now (map finding_of l) in
    subst P (take_all c.loop-sited.sited-index c.args.found.now c.loop-sited-test.false) c.loop-sited.invariant
