use Rattle.std.proofs.Common.{ℕ, List, ap, sym, arith}
use Rattle.std.specs.Str.{bytes_eq}
use Rattle.views.proofs.Filling.{text_more}
use Rattle.views.specs.Indexes.{name_is}
use Rattle.views.proofs.firsts.index_texts.Goals as goal

pub loop-at-preserved : goal.loop-at-preserved
loop-at-preserved c = record {
  within = let low = c.loop-at.invariant.within in omega arith;
  has = text_more c.loop-at.index c.insert.new.self name_is c.loop-at.at c.args.texts.now c.index-texts-at.result c.in_ok-text.text
      c.loop-at-test.true c.loop-at.invariant.within c.index-texts-at.is (λ q. ap (λ (k : List ℕ). bytes_eq k q) c.in_ok-text.ensures.cases)
      c.loop-at.invariant.has c.in_ok-insert.ensures.updates;
}
