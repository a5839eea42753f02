use Rattle.consistency.proofs.Emptied.{empties_put, empties_kept}
use Rattle.consistency.proofs.rounds.empty_findings.Goals as goal
use Rattle.consistency.proofs.rounds.empty_findings.Goals.{then-living-f-eq0+in_ok-push, else-living-f-eq0}

pub loop-f-preserved : goal.loop-f-preserved
loop-f-preserved c = elim c.if-living-f-eq0.branch [
  | then-living-f-eq0+in_ok-push w ↦ rw (w.empty-is, w.in_ok-push.ensures.items) (empties_put c.args.living.now c.loop-f.f c.loop-f.empty.items w.if-living-f-eq0.true c.loop-f.invariant)
  | else-living-f-eq0 w ↦ rw w.empty-is (empties_kept c.args.living.now c.loop-f.f c.loop-f.empty.items w.if-living-f-eq0.false c.loop-f.invariant)
]
