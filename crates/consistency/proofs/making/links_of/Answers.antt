use Rattle.consistency.specs.Among.{LinkAmong}
use Rattle.consistency.proofs.Known.{all_at}
use Rattle.consistency.proofs.Standing.{links_more}
use Rattle.consistency.proofs.making.links_of.Goals as goal

pub loop-link-preserved : goal.loop-link-preserved
loop-link-preserved c = (
  rw c.in_ok-push.ensures.items (links_more c.args.keys.now c.loop-link.words.items c.link_of.new.words.items c.loop-link.made.items c.args.links.now c.loop-link.link-index c.in_ok-link_of.field-0 c.link-item.result
      c.loop-link-test.true c.link-item.is c.in_ok-link_of.ensures.words c.loop-link.invariant.0 c.in_ok-link_of.ensures.link),
  λ w l h. c.in_ok-link_of.ensures.words w l (c.loop-link.invariant.1 w l h),
)

pub link_of-requires-clause-among : goal.link_of-requires-clause-among
link_of-requires-clause-among c =
    all_at (LinkAmong c.args.keys.now) c.args.links.now c.loop-link.link-index c.link-item.result c.requires.among c.loop-link-test.true c.link-item.is
