use Rattle.std.proofs.Common.{◌≡◌, map, take}
use Rattle.program_maker.specs.Kept.{numbers_as, units_lent}
use Rattle.program_maker.specs.Program.{field_info}
use Rattle.program_maker.proofs.classes.field_infos.Given as goal

abbrev pub invariant-loop-field : goal.invariant-loop-field
invariant-loop-field l = l.infos ≡ map (field_info (numbers_as l.numbers) (units_lent l.units) l.surface.name) (take l.field-index l.field-items)
