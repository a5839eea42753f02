use Rattle.std.proofs.Common.{◌≡◌, map, take}
use Rattle.program_maker.specs.Kept.{numbers_as, units_lent}
use Rattle.program_maker.specs.Program.{unit_code}
use Rattle.program_maker.proofs.units.unit_codes.Given as goal

abbrev pub invariant-loop-unit : goal.invariant-loop-unit
invariant-loop-unit l = l.codes ≡ map (unit_code (numbers_as l.numbers) l.surfaces) (units_lent (take l.unit-index l.units))
