use Rattle.std.proofs.Common.{ap, ◌∙◌}
use Rattle.views.specs.Face.{face}
use Rattle.bound_unit.specs.Aboves.{aboves_as, has_name}
use Rattle.bound_unit.specs.Implemented.{above_in}
use Rattle.bound_unit.proofs.Meeting.{met_more, at_new, at_met}
use Rattle.bound_unit.proofs.interfaces.all_above.Goals as goal
use Rattle.bound_unit.proofs.interfaces.all_above.Goals.{then-branch+in_ok-put_above, else-branch}

pub loop-interface-preserved : goal.loop-interface-preserved
loop-interface-preserved c =
    let xs = c.interfaces-interface-items.result.now in
    let i = c.loop-interface.interface-index in
    let x = c.interface-item.result in
    let f = above_in (face c.args.view.now) c.args.member.now c.args.name.now c.args.count in
    let old = aboves_as c.loop-interface.list.items in (
      met_more (has_name c.loop-interface.met) (has_name c.is_new.new.met) xs i x c.loop-interface-test.true c.interface-item.is c.loop-interface.invariant.0 c.in_ok-is_new.ensures.kept,
      elim c.if-branch.branch [
        | then-branch+in_ok-put_above w ↦
            at_new f (has_name c.loop-interface.met) xs i x c.in_ok-is_new.field-0 old (aboves_as c.if-branch.list.items) _ c.loop-interface-test.true c.interface-item.is c.loop-interface.invariant.0
            c.in_ok-is_new.ensures.new w.if-branch.true c.loop-interface.invariant.1 (ap (λ l. aboves_as l.items) w.list-is ∙ w.in_ok-put_above.ensures)
        | else-branch w ↦
            at_met f (has_name c.loop-interface.met) xs i x c.in_ok-is_new.field-0 old (aboves_as c.if-branch.list.items) _ c.loop-interface-test.true c.interface-item.is c.loop-interface.invariant.0
            c.in_ok-is_new.ensures.new w.if-branch.false c.loop-interface.invariant.1 (ap (λ l. aboves_as l.items) w.list-is)
      ],
    )
