use Rattle.std.proofs.Common.{◌<◌, length, arith}
use Rattle.bound_tree.proofs.Marking.{marked_more}
use Rattle.bound_tree.proofs.assigned.table_of.Goals as goal

pub loop-local-preserved : goal.loop-local-preserved
loop-local-preserved c = λ x.
    let lt : c.loop-local.local-index < length c.args.locals.now = omega arith in
    marked_more x c.loop-local.local-index 0 c.args.locals.now _ _ (c.in_ok-mark.ensures x) (c.loop-local.invariant x) lt
