use Rattle.consistency.specs.Among.{FindingAmong}
use Rattle.consistency_cases.proofs.Within.{all_push}
use Rattle.consistency_cases.proofs.case.findings_of.Goals as goal

pub loop-case-preserved : goal.loop-case-preserved
loop-case-preserved c =
    rw c.in_ok-push.ensures.items
    (all_push (FindingAmong c.args.keys.now) c.loop-case.findings.items c.in_ok-finding_of.field-0 c.loop-case.invariant c.in_ok-finding_of.ensures)
