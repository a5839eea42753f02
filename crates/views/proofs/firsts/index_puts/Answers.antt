use Rattle.std.proofs.Common.{ap, sym, ◌∙◌, arith}
use Rattle.std.specs.Prelude.{is_some}
use Rattle.views.proofs.Filling.{is_some-copied, put_keyed, text_more}
use Rattle.views.specs.Looks.{puts_field}
use Rattle.views.proofs.firsts.index_puts.Goals as goal

pub loop-at-preserved-in_ok-insert : goal.loop-at-preserved-in_ok-insert
loop-at-preserved-in_ok-insert c = record {
  within = let low = c.loop-at.invariant.within in omega arith;
  has = text_more c.loop-at.index c.insert.new.self puts_field c.loop-at.at c.args.standing.now c.index-standing-at.result c.in_ok-key.key
      c.loop-at-test.true c.loop-at.invariant.within c.index-standing-at.is
      (put_keyed c.index-standing-at.result c.in_ok-key.key
      (sym (ap is_some c.region_content.ensures) ∙ is_some-copied c.region_content.result ∙ sym c.if-is_some.ensures)
      c.in_ok-key.ensures.cases)
      c.loop-at.invariant.has c.in_ok-insert.ensures.updates;
}
