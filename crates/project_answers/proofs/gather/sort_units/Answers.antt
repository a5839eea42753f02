use Rattle.std.proofs.Common.{rules}
use Rattle.std.specs.Cmp.Lexicographic.{nat_list_cmp_total}
use Rattle.std.proofs.lemmas.List.MinMax.{ranks_by}
use Rattle.std.proofs.lemmas.Fn.{always_returns_same}
use Rattle.finding_order.proofs.Sorting.{sorted-ordered}
use Rattle.project_answers.specs.Gathered.{unit_before}
use Rattle.project_answers.specs.declared.gather.UnitFound.{UnitFound}
use Rattle.project_answers.proofs.gather.sort_units.Goals as goal

pub returns : goal.returns
returns c =
    let by_key = ranks_by nat_list_cmp_total (λ (u : UnitFound). u.key) in
    sorted-ordered unit_before by_key c.args.units.now.items c.sort_by.new.self.items
    (c.in_ok-sort_by.ensures.sorted unit_before by_key (always_returns_same _ _ _ (λ a r q k. search rules)))
    (c.sort_by.ensures.stable unit_before by_key (always_returns_same _ _ _ (λ a r q k. search rules)))
