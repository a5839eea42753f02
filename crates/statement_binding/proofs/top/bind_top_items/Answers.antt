use Rattle.statement_binding.proofs.Running.{top_first, top_on, top_made, top_notes}
use Rattle.statement_binding.proofs.top.bind_top_items.Goals as goal

pub loop-item-init : goal.loop-item-init
loop-item-init g c = top_first _ _ _ _ _ _ _ c.new-written.ensures c.new-made.ensures

pub loop-item-preserved : goal.loop-item-preserved
loop-item-preserved g c =
    top_on _ _ _ _ _ _ _ _ _ _ _ _ _ _ _ _ _ c.loop-item-test.true c.item-item.is c.in_ok-stmt.ensures.made c.in_ok-stmt.ensures.notes c.in_ok-stmt.ensures.written c.in_ok-stmt.ensures.locals
    c.in_ok-push.ensures.ok c.loop-item.invariant

pub returns-clause-made : goal.returns-clause-made
returns-clause-made g c = top_made _ _ _ _ _ _ _ _ _ _ c.loop-item-test.false c.loop-item.invariant

pub returns-clause-notes : goal.returns-clause-notes
returns-clause-notes g c = top_notes _ _ _ _ _ _ _ _ _ _ c.loop-item-test.false c.loop-item.invariant
