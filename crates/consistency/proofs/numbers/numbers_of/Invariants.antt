use Rattle.consistency.specs.Keys.{IndexesTo}
use Rattle.consistency.proofs.numbers.numbers_of.Given as goal

abbrev pub invariant-loop-i : goal.invariant-loop-i
invariant-loop-i l = IndexesTo l.keys l.i l.numbers
