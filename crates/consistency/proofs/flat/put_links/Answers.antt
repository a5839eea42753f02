use Rattle.std.proofs.Common.{refl}
use Rattle.consistency.proofs.Flattening.{links_put, links_skip}
use Rattle.consistency.proofs.flat.put_links.Goals as goal
use Rattle.consistency.proofs.flat.put_links.Goals.{in-Promise+in_ok-push-in-Promise+in_ok-push-in-Promise-2, in-Word}

pub loop-link-preserved : goal.loop-link-preserved
loop-link-preserved c =
    let i = c.loop-link.link-index in
    elim c.match-link.branch [
      | in-Promise+in_ok-push-in-Promise+in_ok-push-in-Promise-2 w ↦ rw w.flat-is (links_put c.args.flat.now c.loop-link.flat _ c.args.way w.in-Promise.promise i c.args.links.now _ c.loop-link-test.true w.in-Promise.is
          refl refl refl refl w.in_ok-push-in-Promise.ensures.items w.in_ok-push-in-Promise-2.ensures.items c.loop-link.invariant)
      | in-Word w ↦ rw w.flat-is (links_skip c.args.flat.now c.loop-link.flat c.args.way _ i c.args.links.now _ c.loop-link-test.true w.in-Word.is c.loop-link.invariant)
    ]
