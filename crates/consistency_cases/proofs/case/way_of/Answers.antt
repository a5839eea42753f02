use Rattle.consistency.specs.Among.{LinkAmong}
use Rattle.consistency_cases.proofs.Within.{all_push}
use Rattle.consistency_cases.proofs.case.way_of.Goals as goal

pub loop-link-preserved : goal.loop-link-preserved
loop-link-preserved c =
    rw c.in_ok-push.ensures.items (all_push (LinkAmong c.args.keys.now) c.loop-link.way.items c.in_ok-link_of.field-0 c.loop-link.invariant c.in_ok-link_of.ensures)
