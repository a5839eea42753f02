use Rattle.std.proofs.Common.{ap, ◌∙◌, rules}
use Rattle.std.proofs.lemmas.Fn.{always_returns_same}
use Rattle.finding_order.specs.Order.{is_before, in_place}
use Rattle.finding_order.proofs.Sorting.{sorted-ordered}
use Rattle.finding_order.proofs.Counting.{before_order}
use Rattle.finding_order.proofs.order.sorted.Goals as goal

pub returns : goal.returns
returns c =
    sorted-ordered is_before before_order c.in_ok-sorted.sorted.items c.sort_by.new.self.items
    (c.in_ok-sort_by.ensures.sorted is_before before_order (always_returns_same _ _ _ (λ a r q k. search rules)))
    (c.sort_by.ensures.stable is_before before_order (always_returns_same _ _ _ (λ a r q k. search rules)))
    ∙ ap in_place c.in_ok-sorted.ensures
