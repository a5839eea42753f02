use Rattle.std.proofs.Common.{take}
use Rattle.consistency.specs.Steps.{Leave}
use Rattle.consistency.proofs.rounds.leave.Given as goal

abbrev pub invariant-loop-f : goal.invariant-loop-f
invariant-loop-f l = Leave l.on (take l.f-index l.emptied) l.round l.initial.left l.left l.front.items
