use Rattle.std.proofs.Common.{take}
use Rattle.consistency.specs.Steps.{Killed, Counted}
use Rattle.consistency.proofs.rounds.kill.Given as goal

abbrev pub invariant-loop-a : goal.invariant-loop-a
invariant-loop-a l = Killed l.finding (take l.a-index l.dying) l.initial.dead l.dead l.initial.living l.living l.emptied.items × Counted l.finding l.dead l.living
