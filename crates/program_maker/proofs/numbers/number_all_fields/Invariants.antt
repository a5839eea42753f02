use Rattle.std.proofs.Common.{take}
use Rattle.program_maker.specs.Kept.{FieldsNumbered, surfaces_lent}
use Rattle.program_maker.proofs.numbers.number_all_fields.Given as goal

abbrev pub invariant-loop-surface : goal.invariant-loop-surface
invariant-loop-surface l = FieldsNumbered l.numbers (surfaces_lent (take l.surface-index l.surfaces))
