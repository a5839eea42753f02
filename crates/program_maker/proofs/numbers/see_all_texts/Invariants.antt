use Rattle.std.proofs.Common.{take}
use Rattle.program_maker.specs.Kept.{units_lent}
use Rattle.program_maker.specs.Naming.{texts_of}
use Rattle.program_maker.specs.Numbered.{AreSeen}
use Rattle.program_maker.proofs.numbers.see_all_texts.Given as goal

abbrev pub invariant-loop-unit : goal.invariant-loop-unit
invariant-loop-unit l = AreSeen l.texts (texts_of (units_lent (take l.unit-index l.units)))
