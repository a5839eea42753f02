use Rattle.std.proofs.Common.{◌<◌, ◌≤◌, length, arith}
use Rattle.expression_binding.proofs.Arguments.{goes_push, all_terms, all_notes}
use Rattle.expression_binding.proofs.bound.+expr.Goals as goal

pub raw_all-loop-at-preserved : goal.raw_all-loop-at-preserved
raw_all-loop-at-preserved g t c =
    let lt : c.loop-at.at < length c.args.list.now = omega arith in
    goes_push _ _ _ _ _ _ _ _ _ _ _ _ _ _ _ _ _ lt c.index-list-at.is c.argument_place.ensures c.in_ok-value.ensures.term c.in_ok-value.ensures.notes
    c.in_ok-value-2.ensures.term c.in_ok-value-2.ensures.notes c.in_ok-push.ensures.ok c.loop-at.invariant

pub raw_all-returns-clause-terms : goal.raw_all-returns-clause-terms
raw_all-returns-clause-terms g t c =
    let over : length c.args.list.now ≤ c.loop-at.at = omega arith in
    all_terms _ _ _ _ _ _ _ _ _ over c.loop-at.invariant

pub raw_all-returns-clause-notes : goal.raw_all-returns-clause-notes
raw_all-returns-clause-notes g t c =
    let over : length c.args.list.now ≤ c.loop-at.at = omega arith in
    all_notes _ _ _ _ _ _ _ _ _ over c.loop-at.invariant
