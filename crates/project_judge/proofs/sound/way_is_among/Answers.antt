use Rattle.std.proofs.Common.{List, refl, subst, take_all, ◌∙◌}
use Rattle.std.specs.Prelude.{All}
use Rattle.std.proofs.lemmas.List.Elements.{All-more}
use Rattle.result_records.specs.declared.finding.FindingLink.{FindingLink}
use Rattle.consistency.specs.Among.{LinkAmong}
use Rattle.project_judge.proofs.sound.way_is_among.Goals as goal

pub loop-link-preserved : goal.loop-link-preserved
loop-link-preserved c =
    All-more (LinkAmong c.args.promises.now) c.as_slice-link-items.result.now c.loop-link.link-index c.link-item.result c.loop-link-test.true c.loop-link.invariant (subst (LinkAmong c.args.promises.now) c.link-item.is (c.if-not-link_is_among.ensures refl))

pub returns : goal.returns
returns c so =
    let P : List (FindingLink) → Type 0 = λ l. All (LinkAmong c.args.promises.now) l in
    subst P (take_all c.loop-link.link-index c.as_slice-link-items.result.now c.loop-link-test.false ∙ c.as_slice-link-items.ensures) c.loop-link.invariant
