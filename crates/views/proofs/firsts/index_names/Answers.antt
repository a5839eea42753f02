use Rattle.std.proofs.Common.{ℕ, List, ap, sym, arith}
use Rattle.std.specs.Str.{bytes_eq}
use Rattle.views.proofs.Filling.{text_more}
use Rattle.views.specs.Indexes.{name_is}
use Rattle.views.proofs.firsts.index_names.Goals as goal

pub loop-at-preserved : goal.loop-at-preserved
loop-at-preserved c = record {
  within = let low = c.loop-at.invariant.within in omega arith;
  has = text_more c.loop-at.index c.insert.new.self name_is c.loop-at.at c.args.names.now c.index-names-at.result c.in_ok-name.name
      c.loop-at-test.true c.loop-at.invariant.within c.index-names-at.is (λ q. ap (λ (k : List ℕ). bytes_eq k q) c.in_ok-name.ensures.cases)
      c.loop-at.invariant.has c.in_ok-insert.ensures.updates;
}
