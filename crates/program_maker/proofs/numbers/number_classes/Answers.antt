use Rattle.program_maker.proofs.Placing.{class_more}
use Rattle.program_maker.proofs.numbers.number_classes.Goals as goal

pub loop-at-preserved : goal.loop-at-preserved
loop-at-preserved c =
    class_more c.args.surfaces.now c.loop-at.at c.index-surfaces-at.result c.loop-at.numbers c.put_first.new.numbers c.as_slice.result.now c.in_ok-short.field-0
    c.loop-at-test.true c.index-surfaces-at.is c.as_slice.ensures c.in_ok-short.ensures c.loop-at.invariant c.in_ok-put_first.ensures
