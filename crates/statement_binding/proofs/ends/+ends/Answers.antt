use Rattle.std.proofs.Common.{◌≡◌, ◌∙◌, sym}
use Rattle.statement_binding.proofs.Running.{none_ends, one_ends}
use Rattle.statement_binding.proofs.ends.+ends.Goals as goal

pub last_never_ends-returns-then-is_empty : goal.last_never_ends-returns-then-is_empty
last_never_ends-returns-then-is_empty t c number = none_ends number c.args.items.now (sym c.if-is_empty.true ∙ c.is_empty.ensures)

pub last_never_ends-returns : goal.last_never_ends-returns
last_never_ends-returns t c number =
    c.item_never_ends.ensures number
    ∙ one_ends number c.args.items.now c.index-items-items.result (sym c.if-is_empty.false ∙ c.is_empty.ensures) c.index-items-items.is
