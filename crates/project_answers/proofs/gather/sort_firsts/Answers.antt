use Rattle.std.proofs.Common.{rules}
use Rattle.std.proofs.lemmas.List.MinMax.{ranks_by}
use Rattle.std.proofs.lemmas.Fn.{always_returns_same}
use Rattle.desk_base.specs.contracts.key.PromiseKeyOrd.TheImpl.Laws as key_laws
use Rattle.finding_order.proofs.Sorting.{sorted-ordered}
use Rattle.project_answers.specs.Gathered.{first_before}
use Rattle.project_answers.specs.declared.sited.Sited.{Sited}
use Rattle.project_answers.proofs.gather.sort_firsts.Goals as goal

pub returns : goal.returns
returns c =
    let by_promise = ranks_by key_laws.total-law (λ (s : Sited). s.finding.key.on) in
    sorted-ordered first_before by_promise c.args.firsts.now.items c.sort_by.new.self.items
    (c.in_ok-sort_by.ensures.sorted first_before by_promise (always_returns_same _ _ _ (λ a r q k. search rules)))
    (c.sort_by.ensures.stable first_before by_promise (always_returns_same _ _ _ (λ a r q k. search rules)))
