use Rattle.bound_tree.specs.Claims.{varies_in}
use Rattle.bound_tree.specs.Reading.{terms_of}
use Rattle.bound_tree.specs.Shown.{claims_as}
use Rattle.lock_findings.specs.Rows.{call_finding}
use Rattle.lock_findings.proofs.Pushed.{pushed}
use Rattle.lock_findings.proofs.row.Judge.put_needs.Goals as goal

pub loop-need-preserved : goal.loop-need-preserved
loop-need-preserved g c =
    let a = c.args in
    pushed (call_finding a.self.now.own.now (varies_in a.self.now.varies.now) (claims_as a.spot.now.claims.now) a.spot.now.at a.subject.now a.receiver (terms_of a.args.now))
    a.needs.now c.loop-need.need-index c.need-item.result a.out.now c.loop-need.out c.push.new.self c.in_ok-call_finding.field-0
    c.loop-need-test.true c.need-item.is c.loop-need.invariant c.in_ok-call_finding.ensures c.in_ok-push.ensures.ok
