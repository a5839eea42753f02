use Rattle.lock_findings.proofs.Front.{begins_after, on_err}
use Rattle.lock_findings.proofs.row.Judge.put_places.Goals as goal

pub returns-in_err-put_place-clause-front : goal.returns-in_err-put_place-clause-front
returns-in_err-put_place-clause-front g c =
    on_err c.from_residual.result
    (begins_after c.args.out.now c.loop-place.out c.put_place.new.out _ c.loop-place.invariant c.in_err-put_place.ensures.front)
