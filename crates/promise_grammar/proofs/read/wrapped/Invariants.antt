use Rattle.std.proofs.Common.{◌≡◌, length}
use Rattle.promise_grammar.specs.Peeling.{wrapped}
use Rattle.promise_grammar.proofs.read.wrapped.Given as goal

abbrev pub invariant-loop-layer : goal.invariant-loop-layer
invariant-loop-layer l = wrapped l.layers l.tree ≡ wrapped l.fn.layers l.fn.core

abbrev pub decreases-loop-layer : goal.decreases-loop-layer
decreases-loop-layer l = length l.layers
