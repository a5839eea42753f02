use Rattle.consistency.specs.Among.{WayAmong}
use Rattle.consistency_cases.proofs.Within.{all_push}
use Rattle.consistency_cases.proofs.case.ways_of.Goals as goal

pub loop-links-preserved : goal.loop-links-preserved
loop-links-preserved c =
    rw c.in_ok-push.ensures.items (all_push (WayAmong c.args.keys.now) c.loop-links.made.items c.in_ok-way_of.field-0 c.loop-links.invariant c.in_ok-way_of.ensures)
