use Rattle.views.proofs.Gathering.{units_more}
use Rattle.views.proofs.promises.index_units.Goals as goal

pub loop-at-preserved : goal.loop-at-preserved
loop-at-preserved c =
    units_more c.loop-at.index c.take_places-places.new.index c.insert.new.self c.args.standing.now c.loop-at.at c.index-standing-at.result
    c.take_places-places.result c.push.new.self c.in_ok-unit.unit c.loop-at.invariant c.loop-at-test.true c.index-standing-at.is
    c.take_places-places.ensures.places c.take_places-places.ensures.left c.in_ok-push.ensures.ok c.in_ok-unit.ensures.cases c.in_ok-insert.ensures.updates
