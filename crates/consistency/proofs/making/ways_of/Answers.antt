use Rattle.consistency.specs.Among.{WayAmong}
use Rattle.consistency.proofs.Known.{all_at}
use Rattle.consistency.proofs.Standing.{ways_more}
use Rattle.consistency.proofs.making.ways_of.Goals as goal

pub loop-way-preserved : goal.loop-way-preserved
loop-way-preserved c =
    let made = rw c.as_slice.ensures at c.in_ok-links_of.ensures.links in (
      rw c.in_ok-push.ensures.items (ways_more c.args.keys.now c.loop-way.words.items c.links_of.new.words.items c.loop-way.made.items c.args.ways.now c.loop-way.way-index c.in_ok-links_of.field-0 c.way-item.result
          c.loop-way-test.true c.way-item.is c.in_ok-links_of.ensures.words c.loop-way.invariant.0 made),
      λ w l h. c.in_ok-links_of.ensures.words w l (c.loop-way.invariant.1 w l h),
    )

pub links_of-requires-clause-among : goal.links_of-requires-clause-among
links_of-requires-clause-among c =
    rw c.as_slice.ensures (all_at (WayAmong c.args.keys.now) c.args.ways.now c.loop-way.way-index c.way-item.result c.requires.among c.loop-way-test.true c.way-item.is)
