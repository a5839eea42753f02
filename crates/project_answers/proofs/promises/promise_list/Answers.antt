use Rattle.std.proofs.lemmas.List.MinMax.{ranks_by}
use Rattle.desk_base.specs.contracts.key.PromiseKeyOrd.TheImpl.Laws as key_laws
use Rattle.desk_base.specs.declared.key.PromiseKey.{PromiseKey}
use Rattle.finding_order.proofs.Sorting.{sorted-ordered}
use Rattle.project_answers.specs.Promises.{promise_before}
use Rattle.project_answers.proofs.Listing.{listed}
use Rattle.project_answers.proofs.promises.promise_list.Goals as goal

pub returns : goal.returns
returns c =
    let order = ranks_by key_laws.total-law (λ (p : PromiseKey). p) in
    listed c.args.promises.items c.new-list.result.items c.push.new.self.items c.sort.new.self.items c.append.new.self.items c.new.result c.new-2.result c.new.ensures c.new-2.ensures
    c.new-list.ensures.items c.in_ok-push.ensures.items
    (sorted-ordered promise_before order c.args.promises.items c.sort.new.self.items c.in_ok-sort.ensures.sorted c.sort.ensures.stable)
    c.in_ok-append.ensures.items
