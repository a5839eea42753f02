use Rattle.unit_judge.proofs.Lists.{asides_more}
use Rattle.unit_judge.proofs.promises.put_asides.Goals as goal

pub loop-aside-preserved : goal.loop-aside-preserved
loop-aside-preserved c =
    asides_more c.args.unit.now c.args.places.now c.args.asides.now c.loop-aside.aside-index c.aside-item.result c.args.out.now.items c.loop-aside.out.items c.put_aside.new.out.items
    c.loop-aside-test.true c.aside-item.is c.loop-aside.invariant c.in_ok-put_aside.ensures
