use Rattle.std.proofs.Common.{take}
use Rattle.promise_scrub.specs.Surfaces.{AreMemberMarks}
use Rattle.promise_scrub.proofs.gather.all_marks.Given as goal

-- those of the members so far
abbrev pub invariant-loop-member : goal.invariant-loop-member
invariant-loop-member l = AreMemberMarks (take l.member-index l.members) l.marks
