use Rattle.std.proofs.Common.{sym, ◌∙◌}
use Rattle.std.proofs.lemmas.Result.{err_from_is_err_and}
use Rattle.promise_grammar.proofs.PeelLaws.{answered, unanswered}
use Rattle.promise_grammar.proofs.read.read_promise.Goals as goal

pub returns-in_err-core : goal.returns-in_err-core
returns-in_err-core c =
    let p = err_from_is_err_and c.from_residual-in_err-core.result c.from_residual-in_err-core.ensures.1 in
    rw p.1 (λ g. unanswered c.args.kind c.args.content.now c.peeled.new.layers c.in_ok-kind.kind c.in_ok-kind.content.now c.in_ok-kind.ensures.1 c.in_ok-kind.ensures.0 (c.in_err-core.ensures (sym p.2 ∙ g)))

pub returns : goal.returns
returns c =
    answered c.args.kind c.args.content.now c.peeled.new.layers c.in_ok-kind.kind c.in_ok-kind.content.now c.in_ok-core.core c.in_ok-wrapped.field-0
    c.in_ok-kind.ensures.1 c.in_ok-core.ensures.0 c.in_ok-wrapped.ensures
