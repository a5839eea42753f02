use Rattle.std.specs.Option.{option_copied}
use Rattle.unit_findings.proofs.Asides.{asides_more}
use Rattle.unit_findings.proofs.unit.put_asides.Goals as goal

pub loop-promise-preserved : goal.loop-promise-preserved
loop-promise-preserved c =
    asides_more c.args.unit.now (option_copied c.args.vouch) c.args.promises.now c.loop-promise.promise-index c.promise-item.result _ _ _
    c.loop-promise-test.true c.promise-item.is c.loop-promise.invariant c.in_ok-put_aside.ensures
