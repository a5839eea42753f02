use Rattle.bound_unit.proofs.Putting.{put_next}
use Rattle.bound_unit.proofs.names.put_standing.Goals as goal

pub loop-at-preserved : goal.loop-at-preserved
loop-at-preserved c =
    put_next c.args.params.now c.args.promises.now c.loop-at.at _ c.loop-at.names c.put_promise.new.names _ c.get.ensures c.loop-at.invariant c.in_ok-put_promise.ensures
