use Rattle.lock_findings.specs.LockFindings.{above_finding}
use Rattle.lock_findings.proofs.Pushed.{pushed}
use Rattle.lock_findings.proofs.unit.put_above.Goals as goal

pub loop-above-preserved : goal.loop-above-preserved
loop-above-preserved c =
    let a = c.args in
    pushed (above_finding a.own.now a.asked.now.need) a.aboves.now c.loop-above.above-index c.above-item.result a.out.now c.loop-above.out c.push.new.self c.in_ok-above_finding.field-0
    c.loop-above-test.true c.above-item.is c.loop-above.invariant c.in_ok-above_finding.ensures c.in_ok-push.ensures.ok
