use Rattle.std.proofs.Common.{◌++◌, sym, ap, ◌∙◌, subst}
use Rattle.std.specs.Prelude.{OnOk}
use Rattle.class_faces.specs.Assigned.{Names, Puts, by_first, by_step, stmt_names}
use Rattle.class_faces.proofs.Assigns.{block_done, puts_after, for_names}
use Rattle.class_faces.proofs.assigned.+assigned.Goals as goal

pub put_block-returns : goal.put_block-returns
put_block-returns t c =
    block_done c.args.names.now c.loop-item.names c.args.block.now c.as_slice-item-items.result.now c.loop-item.item-index
    c.as_slice-item-items.ensures c.loop-item-test.false c.loop-item.invariant

pub put_stmt-returns-in_ok-put_parts-in-For : goal.put_stmt-returns-in_ok-put_parts-in-For
put_stmt-returns-in_ok-put_parts-in-For t c =
    let P : Names → Type 0 = λ names. OnOk c.put_stmt-in-For.result (Puts c.args.names.now c.put_stmt-in-For.new.names names) in
    let body = c.get-in-For.ensures in
    subst P (ap (λ b. (by_first c.in-For.first ++ by_step c.in-For.step) ++ stmt_names b) c.get-in-For.ensures
    ∙ sym (for_names c.in-For.field-0 c.in-For.first c.in-For.field-2 c.in-For.step c.in-For.body) ∙ sym (ap stmt_names c.in-For.is))
    (puts_after c.put_stmt-in-For.result c.args.names.now c.put_parts.new.names c.put_stmt-in-For.new.names (by_first c.in-For.first ++ by_step c.in-For.step)
    (stmt_names c.get-in-For.result.now) c.in_ok-put_parts-in-For.ensures c.put_stmt-in-For.ensures)
