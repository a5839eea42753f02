use Rattle.std.proofs.Common.{take}
use Rattle.promise_marks.specs.Given.{by_params}
use Rattle.promise_marks.specs.Marks.{PutsMarks}
use Rattle.promise_marks.proofs.marks.put_params.Given as goal

-- those of the parameters so far are put
abbrev pub invariant-loop-i : goal.invariant-loop-i
invariant-loop-i l = PutsMarks l.initial.marks l.marks (by_params 0 (take l.i l.params))
