use Rattle.std.proofs.Common.{get_or, arith, refl, None}
use Rattle.consistency.proofs.Leaving.{leave_kept, leave_more, is_nothing, is_something}
use Rattle.consistency.proofs.rounds.leave.Goals as goal
use Rattle.consistency.proofs.rounds.leave.Goals.{then-is_none+in_ok-push, else-is_none}

pub loop-f-preserved : goal.loop-f-preserved
loop-f-preserved c =
    let i = c.loop-f.f-index in
    let f = get_or c.args.emptied.now i 0 in
    let p = get_or c.args.on.now f 0 in
    let lf = c.requires.within i 0 c.loop-f-test.true in
    let lp = c.requires.on_in f lf in
    let ll = c.loop-f.auto.left in
    elim c.if-is_none.branch [
      | then-is_none+in_ok-push w ↦ rw (w.left-is, w.front-is, w.in_ok-push.ensures.items)
          (leave_more c.args.on.now c.args.emptied.now i c.args.round p c.args.left.now c.loop-f.left c.loop-f.front.items c.loop-f-test.true refl (omega (arith, ll, lp)) (is_nothing (get_or c.loop-f.left p None) c.is_none.result c.is_none.ensures w.if-is_none.true) c.loop-f.invariant)
      | else-is_none w ↦ rw (w.left-is, w.front-is)
          (leave_kept c.args.on.now c.args.emptied.now i c.args.round c.args.left.now c.loop-f.left c.loop-f.front.items c.loop-f-test.true (is_something (get_or c.loop-f.left p None) c.is_none.result c.is_none.ensures w.if-is_none.false) c.loop-f.invariant)
    ]
