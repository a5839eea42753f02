use Rattle.std.proofs.Common.{sym, ◌∙◌}
use Rattle.std.proofs.lemmas.Result.{err_from_is_err_and}
use Rattle.promise_grammar.specs.Reading.{separated, lock_item}
use Rattle.promise_grammar.proofs.Lists.{lock_item_shrinks, goes_on, ends, fails}
use Rattle.promise_grammar.proofs.lock.lock_items.Goals as goal

pub returns-in_err-lock_item : goal.returns-in_err-lock_item
unfolding separated
returns-in_err-lock_item c =
    let p = err_from_is_err_and c.from_residual.result c.from_residual.ensures.1 in
    rw p.1 (λ g. fails lock_item _ c.loop-found.found c.loop-found.pieces c.loop-found.invariant (c.in_err-lock_item.ensures (sym p.2 ∙ g)))

pub returns-then-not-eat_sign : goal.returns-then-not-eat_sign
unfolding separated
returns-then-not-eat_sign c =
    ends lock_item lock_item_shrinks _ c.loop-found.found c.push.new.self c.loop-found.pieces c.in_ok-lock_item.field-0 c.lock_item.new.pieces c.eat_sign.new.self c.loop-found.invariant c.in_ok-lock_item.ensures (cc) c.eat_sign.ensures.rest c.in_ok-push.ensures.ok

pub loop-found-smaller : goal.loop-found-smaller
loop-found-smaller c =
    (goes_on lock_item lock_item_shrinks _ c.loop-found.found c.push.new.self c.loop-found.pieces c.in_ok-lock_item.field-0 c.lock_item.new.pieces c.eat_sign.new.self c.loop-found.invariant c.in_ok-lock_item.ensures (cc) c.eat_sign.ensures.rest c.in_ok-push.ensures.ok).0

pub loop-found-preserved : goal.loop-found-preserved
loop-found-preserved c =
    (goes_on lock_item lock_item_shrinks _ c.loop-found.found c.push.new.self c.loop-found.pieces c.in_ok-lock_item.field-0 c.lock_item.new.pieces c.eat_sign.new.self c.loop-found.invariant c.in_ok-lock_item.ensures (cc) c.eat_sign.ensures.rest c.in_ok-push.ensures.ok).1
