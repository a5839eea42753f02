use Rattle.std.proofs.Common.{subst, sym}
use Rattle.program_maker.specs.Numbered.{AreSeen}
use Rattle.program_maker.proofs.Seeing.{units_seen}
use Rattle.program_maker.proofs.numbers.see_all_texts.Goals as goal

pub loop-unit-preserved : goal.loop-unit-preserved
loop-unit-preserved c =
    subst (AreSeen c.see_unit.new.names)
    (sym (units_seen c.args.units.now c.loop-unit.unit-index c.unit-item.result c.loop-unit-test.true c.unit-item.is))
    (c.in_ok-see_unit.ensures _ c.loop-unit.invariant)
