use Rattle.std.specs.Option.{option_copied}
use Rattle.unit_judge.proofs.Lists.{put_next}
use Rattle.unit_judge.proofs.promises.put_standing.Goals as goal

pub loop-at-preserved : goal.loop-at-preserved
loop-at-preserved c =
    put_next c.args.promises.now c.loop-at.at (option_copied c.get.result) c.loop-at.out.items c.put_promise.new.out.items _ c.get.ensures c.loop-at.invariant c.in_ok-put_promise.ensures
