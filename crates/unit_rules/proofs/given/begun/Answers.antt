use Rattle.std.proofs.Common.{ap, ◌∙◌, ◌++◌, ◌-◌, refl}
use Rattle.std.specs.Prelude.{replicate}
use Rattle.unit_rules.proofs.Beginnings.{begun_step, begun_rest}
use Rattle.unit_rules.proofs.given.begun.Goals as goal

pub loop-annotation-preserved : goal.loop-annotation-preserved
loop-annotation-preserved c = record {
  within = c.given_count-count.ensures.within;
  places = begun_step c.args.annotations.now c.loop-annotation.annotation-index c.annotation-item.result c.args.promises.now c.loop-annotation.from c.given_count-count.result _
      c.loop-annotation.out c.put_copies.new.out _ c.loop-annotation-test.true c.annotation-item.is c.given_count-count.ensures.value refl c.in_ok-put_copies.ensures
      c.loop-annotation.invariant.places;
}

pub returns : goal.returns
returns c =
    begun_rest c.args.annotations.now c.loop-annotation.annotation-index c.args.promises.now c.loop-annotation.from c.loop-annotation.out c.put_copies-2.new.out _ c.loop-annotation-test.false
    (c.in_ok-put_copies-2.ensures ∙ ap (λ n. c.loop-annotation.out ++ replicate (n - c.loop-annotation.from) 1) c.len-len.ensures)
    c.loop-annotation.invariant.places
