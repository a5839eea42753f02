use Rattle.std.proofs.Common.{sym, ◌∙◌, arith, ◌≤◌, ◌-◌, length}
use Rattle.unit_rules.proofs.Beginnings.{has_more, has_not}
use Rattle.unit_rules.proofs.given.gives_next.Goals as goal

pub loop-k-preserved : goal.loop-k-preserved
loop-k-preserved c =
    has_more c.args.tree.now c.args.param.now c.args.promises.now c.args.from c.loop-k.k c.loop-k.invariant (sym c.if-not-has_content_at.false ∙ c.has_content_at.ensures)

pub returns-then-not-has_content_at : goal.returns-then-not-has_content_at
returns-then-not-has_content_at c =
    let enough : c.promise_count-count.result ≤ length c.args.promises.now - c.args.from = omega (arith, c.len.ensures, c.if-len-from.false) in
    has_not c.args.tree.now c.args.param.now c.args.promises.now c.args.from c.loop-k.k c.promise_count-count.result c.promise_count-count.ensures c.loop-k-test.true enough c.requires
    (sym c.if-not-has_content_at.true ∙ c.has_content_at.ensures)
