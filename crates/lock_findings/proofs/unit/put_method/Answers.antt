use Rattle.lock_findings.specs.LockFindings.{above_findings}
use Rattle.lock_findings.proofs.Front.{begins_after, on_err}
use Rattle.lock_findings.proofs.Pushed.{appended}
use Rattle.lock_findings.proofs.unit.put_method.Goals as goal

pub loop-asked-preserved : goal.loop-asked-preserved
loop-asked-preserved c =
    let a = c.args in
    appended (above_findings a.own.now a.aboves.now) c.as_slice-asked-items.result.now c.loop-asked.asked-index c.asked-item.result a.out.now c.loop-asked.out c.put_above.new.out
    c.loop-asked-test.true c.asked-item.is c.loop-asked.invariant c.in_ok-put_above.ensures.ok

pub returns-in_err-put_above-clause-front : goal.returns-in_err-put_above-clause-front
returns-in_err-put_above-clause-front c =
    on_err c.from_residual.result
    (begins_after c.args.out.now c.loop-asked.out c.put_above.new.out _ c.loop-asked.invariant c.in_err-put_above.ensures.front)
