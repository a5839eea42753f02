use Rattle.std.proofs.Common.{length}
use Rattle.promise_grammar.specs.Peeling.{Peeled}
use Rattle.promise_grammar.proofs.read.peeled.Given as goal

abbrev pub invariant-inwards : goal.invariant-inwards
invariant-inwards l = Peeled l.fn.kind l.fn.content l.layers l.kind l.content

abbrev pub decreases-inwards : goal.decreases-inwards
decreases-inwards l = length l.content
