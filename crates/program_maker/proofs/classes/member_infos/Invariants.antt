use Rattle.std.proofs.Common.{◌≡◌, map, take}
use Rattle.program_maker.specs.Kept.{numbers_as, units_lent}
use Rattle.program_maker.specs.Program.{member_info}
use Rattle.program_maker.proofs.classes.member_infos.Given as goal

abbrev pub invariant-loop-member : goal.invariant-loop-member
invariant-loop-member l = l.infos ≡ map (member_info (numbers_as l.numbers) (units_lent l.units)) (take l.member-index l.member-items)
