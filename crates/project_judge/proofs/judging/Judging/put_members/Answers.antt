use Rattle.std.proofs.Common.{List, ◌++◌, ◌∙◌, subst, take, take_all}
use Rattle.std.specs.Option.{option_copied}
use Rattle.java_tree.specs.declared.member.MemberTree.{MemberTree}
use Rattle.project_judge.specs.Judged.{AreJudged}
use Rattle.project_judge.specs.Units.{member_units}
use Rattle.project_judge.proofs.JudgeSteps.{looked_up}
use Rattle.project_judge.proofs.UnitSteps.{more_members}
use Rattle.project_judge.proofs.judging.Judging.put_members.Goals as goal

pub loop-i-preserved : goal.loop-i-preserved
loop-i-preserved c = record {
  put = λ surfaces units n is judged.
      let at = c.args.at.now in
      let text = c.args.lines.now.text.now in
      let members = c.as_slice-members.result.now in
      more_members surfaces units n c.put_member.new.self at.file text c.loop-i.lines.text.now at.class.now c.args.keys.now members c.loop-i.i c.index-members-i.result (option_copied c.get.result)
      c.loop-i-test.true c.index-members-i.is c.loop-i.invariant.same (looked_up _ c.args.keys.now c.loop-i.i c.get.result c.get.ensures.lookup.1 c.get.ensures.lookup.3)
      (c.in_ok-put_member.ensures.put surfaces (units ++ member_units at.file text at.class.now c.args.keys.now (take c.loop-i.i members)) n is (c.loop-i.invariant.put surfaces units n is judged));
  same = c.put_member.ensures.same ∙ c.loop-i.invariant.same;
}

pub returns-clause-put : goal.returns-clause-put
returns-clause-put c surfaces units n is judged =
    let at = c.args.at.now in
    let P : List MemberTree → Type 0 = λ ms. AreJudged surfaces (units ++ member_units at.file c.args.lines.now.text.now at.class.now c.args.keys.now ms) n c.loop-i.self in
    subst P (take_all c.loop-i.i c.as_slice-members.result.now c.loop-i-test.false ∙ c.as_slice-members.ensures) (c.loop-i.invariant.put surfaces units n is judged)
