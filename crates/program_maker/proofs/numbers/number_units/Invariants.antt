use Rattle.std.proofs.Common.{take}
use Rattle.program_maker.specs.Kept.{units_lent}
use Rattle.program_maker.specs.Program.{unit_place}
use Rattle.program_maker.specs.Numbered.{HasNumbers}
use Rattle.program_maker.proofs.numbers.number_units.Given as goal

abbrev pub invariant-loop-at : goal.invariant-loop-at
invariant-loop-at l = HasNumbers l.numbers (unit_place (units_lent (take l.at l.units)))
