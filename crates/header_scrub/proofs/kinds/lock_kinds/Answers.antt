use Rattle.header_scrub.proofs.Gathering.{locks_more}
use Rattle.header_scrub.proofs.kinds.lock_kinds.Goals as goal

pub loop-lock-preserved : goal.loop-lock-preserved
loop-lock-preserved c =
    locks_more c.args.locks.now c.loop-lock.lock-index c.lock-item.result c.loop-lock.kinds c.put_first.new.kinds c.in_ok-clone.field-0
    c.loop-lock-test.true c.lock-item.is c.in_ok-clone.ensures.cases c.loop-lock.invariant c.in_ok-put_first.ensures
