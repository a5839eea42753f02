use Rattle.std.proofs.Common.{[], length}
use Rattle.promise_grammar.specs.Reading.{separated_from, target}
use Rattle.promise_grammar.proofs.Lists.{Keeps}
use Rattle.promise_grammar.proofs.effects.targets.Given as goal

abbrev pub invariant-loop-found : goal.invariant-loop-found
invariant-loop-found l = Keeps target (separated_from target (length l.fn.pieces) [] l.fn.pieces) l.found l.pieces

abbrev pub decreases-loop-found : goal.decreases-loop-found
decreases-loop-found l = length l.pieces
