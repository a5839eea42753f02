use Rattle.std.proofs.Common.{sym}
use Rattle.promise_grammar.proofs.LayerLaws.{opened_shorter}
use Rattle.promise_grammar.proofs.PeelLaws.{one_more_off, no_layer}
use Rattle.promise_grammar.proofs.read.peeled.Goals as goal

pub inwards-smaller : goal.inwards-smaller
inwards-smaller c = opened_shorter c.inwards.kind c.inwards.content.now (c.in-Ok.layer, c.in-Ok.inner, c.in-Ok.text.now) c.in-Ok.ensures

pub inwards-preserved : goal.inwards-preserved
inwards-preserved c =
    one_more_off c.args.kind c.args.content.now c.inwards.layers c.push.new.self c.inwards.kind c.inwards.content.now c.in-Ok.layer c.in-Ok.inner c.in-Ok.text.now
    c.inwards.invariant (sym c.inwards-test.ensures) c.in-Ok.ensures c.in_ok-push-in-Ok.ensures.ok

pub returns-in-Err : goal.returns-in-Err
returns-in-Err c =
    λ g. no_layer c.args.kind c.args.content.now c.inwards.layers c.inwards.kind c.inwards.content.now c.inwards.invariant (sym c.inwards-test.ensures) (c.in-Err.ensures g)
