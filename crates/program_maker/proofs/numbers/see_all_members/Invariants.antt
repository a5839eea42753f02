use Rattle.std.proofs.Common.{take, ◌++◌}
use Rattle.std.specs.Prelude.{flat_map}
use Rattle.program_maker.specs.Seen.{first_seen}
use Rattle.program_maker.specs.Kept.{surfaces_lent}
use Rattle.program_maker.specs.Naming.{names_of_members, standing_names}
use Rattle.program_maker.specs.Numbered.{AreSeen}
use Rattle.program_maker.proofs.numbers.see_all_members.Given as goal

abbrev pub invariant-loop-surface : goal.invariant-loop-surface
invariant-loop-surface l = AreSeen l.names (first_seen (standing_names ++ flat_map names_of_members (surfaces_lent (take l.surface-index l.surfaces))))
