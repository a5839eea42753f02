use Rattle.std.proofs.Common.{take, map}
use Rattle.consistency.proofs.Rows.{FoundIn}
use Rattle.consistency.proofs.rounds.dying.Given as goal

abbrev pub invariant-loop-q : goal.invariant-loop-q
invariant-loop-q l = FoundIn (map (λ r. r.items) l.dependents) (take l.q-index l.front) l.dying.items
