use Rattle.std.proofs.Common.{take}
use Rattle.promise_marks.specs.Given.{by_all}
use Rattle.promise_marks.specs.Marks.{PutsMarks}
use Rattle.promise_marks.proofs.marks.put_container.Given as goal

-- those of the annotations so far are put
abbrev pub invariant-loop-annot : goal.invariant-loop-annot
invariant-loop-annot l = PutsMarks l.initial.marks l.marks (by_all l.param l.kind (take l.annot-index l.inner))
