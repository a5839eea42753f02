use Rattle.std.proofs.Common.{◌≡◌, take, reverse}
use Rattle.core_model.proofs.copies.Stack+Call.copy_calls.Given as goal

abbrev pub invariant-loop-call : goal.invariant-loop-call
invariant-loop-call l = l.calls ≡ reverse (take l.call-index l.call-items)
