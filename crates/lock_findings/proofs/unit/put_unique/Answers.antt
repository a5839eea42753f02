use Rattle.lock_findings.specs.LockFindings.{unique_finding}
use Rattle.lock_findings.proofs.Pushed.{pushed}
use Rattle.lock_findings.proofs.unit.put_unique.Goals as goal

pub loop-guard-preserved : goal.loop-guard-preserved
loop-guard-preserved c =
    let a = c.args in
    pushed (unique_finding a.own.now a.name.now a.unique.now) a.guards.now c.loop-guard.guard-index c.guard-item.result a.out.now c.loop-guard.out c.push.new.self c.in_ok-unique_finding.field-0
    c.loop-guard-test.true c.guard-item.is c.loop-guard.invariant c.in_ok-unique_finding.ensures c.in_ok-push.ensures.ok
