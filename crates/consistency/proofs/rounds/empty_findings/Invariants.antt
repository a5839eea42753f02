use Rattle.consistency.specs.Steps.{Empties}
use Rattle.consistency.proofs.rounds.empty_findings.Given as goal

abbrev pub invariant-loop-f : goal.invariant-loop-f
invariant-loop-f l = Empties l.living l.f l.empty.items
