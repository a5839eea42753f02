use Rattle.std.proofs.Common.{List, map, take}
use Rattle.program_maker.specs.Seen.{Name, seen_after}
use Rattle.program_maker.specs.Naming.{name_of_member}
use Rattle.program_maker.specs.Numbered.{AreSeen}
use Rattle.program_maker.proofs.numbers.see_members.Given as goal

abbrev pub invariant-loop-member : goal.invariant-loop-member
invariant-loop-member l = (before : List Name) → AreSeen l.fn.names before → AreSeen l.names (seen_after before (map name_of_member (take l.member-index l.member-items)))
