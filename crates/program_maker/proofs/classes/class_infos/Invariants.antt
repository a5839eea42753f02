use Rattle.std.proofs.Common.{◌≡◌, map, take}
use Rattle.program_maker.specs.Kept.{numbers_as, surfaces_lent, units_lent}
use Rattle.program_maker.specs.Program.{class_info}
use Rattle.program_maker.proofs.classes.class_infos.Given as goal

abbrev pub invariant-loop-surface : goal.invariant-loop-surface
invariant-loop-surface l = l.infos ≡ map (class_info (numbers_as l.numbers) (units_lent l.units)) (surfaces_lent (take l.surface-index l.surfaces))
