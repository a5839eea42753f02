use Rattle.std.proofs.Common.{◌∙◌}
use Rattle.program_maker.proofs.Placing.{unit_more}
use Rattle.program_maker.proofs.numbers.number_units.Goals as goal

pub loop-at-preserved : goal.loop-at-preserved
loop-at-preserved c =
    unit_more c.args.units.now c.loop-at.at c.index-units-at.result c.loop-at.numbers c.put_first.new.numbers c.as_bytes.result.now c.in_ok-short.field-0
    c.loop-at-test.true c.index-units-at.is (c.as_bytes.ensures.value ∙ c.as_str.ensures ∙ c.key.ensures) c.in_ok-short.ensures c.loop-at.invariant c.in_ok-put_first.ensures
