use Rattle.lock_findings.specs.LockFindings.{main_finding}
use Rattle.lock_findings.proofs.Pushed.{pushed}
use Rattle.lock_findings.proofs.unit.put_main.Goals as goal

pub loop-asked-preserved : goal.loop-asked-preserved
loop-asked-preserved c =
    let a = c.args in
    pushed (main_finding a.own.now) c.as_slice-asked-items.result.now c.loop-asked.asked-index c.asked-item.result a.out.now c.loop-asked.out c.push.new.self c.in_ok-main_finding.field-0
    c.loop-asked-test.true c.asked-item.is c.loop-asked.invariant c.in_ok-main_finding.ensures c.in_ok-push.ensures.ok
