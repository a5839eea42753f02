use Rattle.std.proofs.Common.{sym, arith}
use Rattle.views.proofs.Filling.{lock_named, text_more}
use Rattle.views.specs.Indexes.{lock_is}
use Rattle.views.proofs.firsts.index_locks.Goals as goal

pub loop-at-preserved-in_ok-insert : goal.loop-at-preserved-in_ok-insert
loop-at-preserved-in_ok-insert c = record {
  within = let low = c.loop-at.invariant.within in omega arith;
  has = text_more c.loop-at.index c.insert.new.self lock_is c.loop-at.at c.args.standing.now c.index-standing-at.result c.in_ok-name.name
      c.loop-at-test.true c.loop-at.invariant.within c.index-standing-at.is
      (lock_named c.index-standing-at.result c.in-Some.content.now c.in_ok-name.name (sym c.in-Some.ensures) c.in_ok-name.ensures.cases)
      c.loop-at.invariant.has c.in_ok-insert.ensures.updates;
}
