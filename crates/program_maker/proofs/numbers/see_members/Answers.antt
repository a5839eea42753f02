use Rattle.std.proofs.Common.{subst, sym, ap, ◌∙◌}
use Rattle.program_maker.specs.Seen.{with_new}
use Rattle.program_maker.specs.Numbered.{AreSeen}
use Rattle.program_maker.proofs.Seeing.{members_more}
use Rattle.program_maker.proofs.numbers.see_members.Goals as goal

pub loop-member-preserved : goal.loop-member-preserved
loop-member-preserved c before k =
    subst (AreSeen c.see.new.self)
    (ap (with_new _) (c.as_bytes.ensures.value ∙ c.name_in.ensures)
    ∙ sym (members_more before c.as_slice-member-items.result.now c.loop-member.member-index c.member-item.result c.loop-member-test.true c.member-item.is))
    (c.in_ok-see.ensures _ (c.loop-member.invariant before k))
