use Rattle.std.proofs.Common.{◌≡◌, ◌++◌, replicate}
use Rattle.core_model.specs.Objects as spec
use Rattle.core_model.proofs.heap.Heap.push_fresh.Given as goal

abbrev pub invariant-loop : goal.invariant-loop
invariant-loop l = l.self ≡ l.fn.self ++ replicate l.counter spec.fresh_object
