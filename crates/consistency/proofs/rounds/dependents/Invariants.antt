use Rattle.std.proofs.Common.{map}
use Rattle.consistency.specs.Steps.{Dependents}
use Rattle.consistency.proofs.rounds.dependents.Given as goal

abbrev pub invariant-loop-l : goal.invariant-loop-l
invariant-loop-l l = Dependents l.flat l.l (map (λ r. r.items) l.rows.items)
