use Rattle.std.proofs.Common.{rules, ap, sym, ◌∙◌}
use Rattle.std.proofs.lemmas.List.Sorted.{IsPartitionedBy-ltb, IsPartitionPoint-from_clause}
use Rattle.java_tree.specs.declared.token.Token.{Token}
use Rattle.tree_places.specs.Numbers.{number_of}
use Rattle.tree_places.proofs.Search.{before, point-number}
use Rattle.tree_places.proofs.token_numbers.TokenNumbers.number_of.Goals as goal

pub returns-then-self : goal.returns-then-self
returns-then-self c =
    let tokens = c.self.inside.tokens.now in
    let parted = IsPartitionedBy-ltb (λ (t : Token). t.span.start) tokens c.args.at.start (c.self.invariant c.if-self.true) in
    let point = IsPartitionPoint-from_clause (before c.args.at) _ _ c.partition_point.ensures.partitioned parted (λ a r q k. search rules) in
    sym (point-number c.args.at tokens c.partition_point.result c.partition_point.ensures.bound point) ∙ ap (λ l. number_of l c.args.at) c.self.view_is
