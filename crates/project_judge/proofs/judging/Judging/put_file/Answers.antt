use Rattle.std.proofs.Common.{List, ◌++◌, ◌∙◌, sym, subst, take, take_all}
use Rattle.std.specs.Prelude.{All}
use Rattle.std.proofs.lemmas.List.Elements.{All-get_or}
use Rattle.java_tree.specs.declared.file.ClassTree.{ClassTree}
use Rattle.project_judge.specs.Judged.{AreJudged}
use Rattle.project_judge.specs.Surfaced.{IsSurfaced}
use Rattle.project_judge.specs.Units.{units_in}
use Rattle.project_judge.proofs.UnitSteps.{more_types}
use Rattle.project_judge.proofs.judging.Judging.put_file.Goals as goal

pub loop-class-preserved : goal.loop-class-preserved
loop-class-preserved c = record {
  put = λ units n all judged.
      let surfaces = c.args.surfaces.now in
      let text = c.args.read.now.file.text.now in
      let types = c.as_slice-class-items.result.now in
      let i = c.loop-class.class-index in
      let P : ClassTree → Type 0 = IsSurfaced surfaces in
      let here = subst P (sym c.class-item.is) (All-get_or P types i c.class-item.result c.loop-class-test.true (subst (λ (l : List ClassTree). All P l) (sym c.as_slice-class-items.ensures) all)) in
      more_types surfaces units n c.put_class.new.self c.args.file text c.loop-class.lines.text.now types i c.class-item.result c.loop-class-test.true c.class-item.is c.loop-class.invariant.same
      (c.in_ok-put_class.ensures.put (units ++ units_in c.args.file text (take i types)) n here (c.loop-class.invariant.put units n all judged));
  same = c.put_class.ensures.same ∙ c.loop-class.invariant.same;
}

pub returns : goal.returns
returns c units n all judged =
    let P : List ClassTree → Type 0 = λ l. AreJudged c.args.surfaces.now (units ++ units_in c.args.file c.args.read.now.file.text.now l) n c.loop-class.self in
    subst P (take_all c.loop-class.class-index c.as_slice-class-items.result.now c.loop-class-test.false ∙ c.as_slice-class-items.ensures) (c.loop-class.invariant.put units n all judged)
