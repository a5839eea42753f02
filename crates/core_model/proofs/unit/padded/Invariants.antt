use Rattle.std.proofs.Common.{◌≡◌, ◌++◌}
use Rattle.std.specs.Prelude.{replicate}
use Rattle.core_model.specs.declared.value.Value.TheVariants as value
use Rattle.core_model.proofs.unit.padded.Given as goal

abbrev pub invariant-loop : goal.invariant-loop
invariant-loop l = l.args ≡ l.fn.args ++ replicate l.counter value.Null
