use Rattle.std.proofs.Common.{ap, refl, sym, ◌∙◌}
use Rattle.consistency.specs.declared.graph.Clause.{Clause}
use Rattle.consistency.proofs.Flattening.{flat_none, flat_put, has_none, ons_more}
use Rattle.consistency.proofs.flat.lists_of.Goals as goal

pub loop-i-init : goal.loop-i-init
loop-i-init c = (
  c.empty_flat-flat.ensures.promises,
  c.empty_flat-flat.ensures.on,
  flat_none c.args.given c.args.clauses.now c.empty_flat-flat.result (has_none c.args.given c.empty_flat-flat.result c.empty_flat-flat.ensures.ways),
)

pub loop-i-preserved : goal.loop-i-preserved
loop-i-preserved c =
    let i = c.loop-i.i in
    let cs = c.args.clauses.now in
    let adds = c.in_ok-put_ways.ensures in (
      adds.promises ∙ c.loop-i.invariant.0,
      adds.on ∙ c.in_ok-push.ensures.items ∙ ons_more cs i c.index-clauses-i.result c.loop-i.flat.on.items c.loop-i-test.true c.loop-i.invariant.1,
      flat_put _ cs i _ c.index-clauses-i-in-loop-i.result c.loop-i.flat _ c.put_ways.new.flat _ adds (c.deref.ensures.value ∙ ap (λ (z : Clause). z.alternatives.items) (sym c.index-clauses-i-in-loop-i.is)) refl refl refl refl
          c.loop-i-test.true c.index-clauses-i-in-loop-i.is c.in_ok-short.ensures.value c.loop-i.invariant.2,
    )
