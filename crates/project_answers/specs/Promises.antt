-- The promises of a project.
use Rattle.std.specs.Prelude.{Bool, List, ◌∷◌}
use Rattle.std.specs.Ordering.{is_lt}
use Rattle.desk_base.specs.declared.key.PromiseKey.{PromiseKey}
use Rattle.finding_order.specs.Order.{ordered, promise_cmp}
use Rattle.unit_findings.specs.Promises.{program_key}

abbrev pub promise_before : PromiseKey → PromiseKey → Bool
promise_before a b = is_lt (promise_cmp a b)

-- `Program`, and the others in order
abbrev pub promise_list : List PromiseKey → List PromiseKey
promise_list promises = program_key ∷ ordered promise_before promises
