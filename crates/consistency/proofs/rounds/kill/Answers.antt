use Rattle.std.proofs.Common.{get_or, arith}
use Rattle.consistency.proofs.Marks.{killed_step, Grown, grown_push, grown_same}
use Rattle.consistency.proofs.rounds.kill.Goals as goal
use Rattle.consistency.proofs.rounds.kill.Goals.{then-mark+in_ok-push, else-mark}

pub loop-a-preserved : goal.loop-a-preserved
loop-a-preserved c =
    let i = c.loop-a.a-index in
    let a = get_or c.args.dying.now i 0 in
    let at = get_or c.args.finding.now a 0 in
    let gr : Grown c.loop-a.emptied.items c.if-mark.emptied.items at c.mark.result = elim c.if-mark.branch [
      | then-mark+in_ok-push w ↦ rw (w.emptied-is, w.in_ok-push.ensures.items) (grown_push c.loop-a.emptied.items at c.mark.result w.if-mark.true)
      | else-mark w ↦ rw w.emptied-is (grown_same c.loop-a.emptied.items at c.mark.result w.if-mark.false)
    ] in
    let la = c.requires.within i 0 c.loop-a-test.true in
    let ld = c.loop-a.auto.dead in let ll = c.loop-a.auto.living in let z = c.requires.dead_size in let lm = c.mark.auto.living in
    let lf = c.requires.finding_in a la in (
      killed_step c.args.finding.now c.args.dying.now i c.args.dead.now c.loop-a.dead c.mark.new.dead c.args.living.now c.loop-a.living c.mark.new.living
          c.loop-a.emptied.items c.if-mark.emptied.items c.mark.result c.mark.ensures.marked c.loop-a-test.true la (omega (arith, ld, z)) (omega (arith, ll, lf)) (omega (arith, lm))
          c.loop-a.invariant.1 c.mark.ensures.counts c.mark.ensures.emptied c.mark.ensures.others gr c.loop-a.invariant.0,
      c.mark.ensures.counts,
    )
