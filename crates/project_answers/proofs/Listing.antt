-- `Program` in front of promises in order.
use Rattle.std.proofs.Common.{◌≡◌, ℕ, List, [], ◌∷◌, ◌++◌, ◌∙◌, ap}
use Rattle.desk_base.specs.declared.key.PromiseName.TheVariants as kind
use Rattle.desk_base.specs.declared.key.PromiseKey.{PromiseKey}
use Rattle.finding_order.specs.Order.{ordered}
use Rattle.unit_findings.specs.Promises.{program_key}
use Rattle.project_answers.specs.Promises.{promise_before, promise_list}

pub listed : (ps none pushed sorted list : List PromiseKey) (target detail : List ℕ) → target ≡ [] → detail ≡ [] → none ≡ []
    → pushed ≡ none ++ record { target = target; name = kind.Program; detail = detail } ∷ [] → sorted ≡ ordered promise_before ps → list ≡ pushed ++ sorted → list ≡ promise_list ps
listed ps none pushed sorted list target detail no_target no_detail empty push order is =
    is
    ∙ ap (λ l. l ++ sorted) push
    ∙ ap (λ l. (l ++ record { target = target; name = kind.Program; detail = detail } ∷ []) ++ sorted) empty
    ∙ ap (λ t. record { target = t; name = kind.Program; detail = detail } ∷ sorted) no_target
    ∙ ap (λ d. record { target = []; name = kind.Program; detail = d } ∷ sorted) no_detail
    ∙ ap (λ l. program_key ∷ l) order
