use Rattle.promise_grammar.proofs.PeelLaws.{one_off}
use Rattle.promise_grammar.proofs.read.wrapped.Goals as goal

pub loop-layer-preserved : goal.loop-layer-preserved
loop-layer-preserved c =
    one_off c.loop-layer.layers c.pop.new.self c.in-Some.layer c.loop-layer.tree c.in_ok-tree.tree _ c.in-Some.ensures c.in_ok-tree.ensures c.loop-layer.invariant
