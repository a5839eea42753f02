use Rattle.std.proofs.Common.{take}
use Rattle.promise_marks.specs.Given.{by_mods}
use Rattle.promise_marks.specs.Marks.{PutsMarks}
use Rattle.promise_marks.proofs.marks.put_mods.Given as goal

-- those of the modifiers so far are put
abbrev pub invariant-loop-modifier : goal.invariant-loop-modifier
invariant-loop-modifier l = PutsMarks l.initial.marks l.marks (by_mods l.param (take l.modifier-index l.mods))
