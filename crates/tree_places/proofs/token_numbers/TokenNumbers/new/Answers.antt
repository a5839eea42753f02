use Rattle.std.proofs.Common.{rules, ◌≡◌, nat_le}
use Rattle.std.proofs.lemmas.Fn.{always_returns_same}
use Rattle.tree_places.proofs.Search.{in_order-answer}
use Rattle.tree_places.proofs.token_numbers.TokenNumbers.new.Goals as goal

pub invariant_of-result : goal.invariant_of-result
invariant_of-result c =
    in_order-answer c.args.tokens.now c.is_sorted_by-in_order.result
    (c.is_sorted_by-in_order.ensures.cases (λ x y. nat_le x.span.start y.span.start) (always_returns_same _ (λ a r. r ≡ nat_le a.0.now.span.start a.1.0.now.span.start) _ (λ a r q k. search rules)))
