use Rattle.std.proofs.Common.{◌≡◌, take, drop}
use Rattle.core_model.proofs.stack.Stack.take_top.Given as goal

abbrev pub invariant-loop : goal.invariant-loop
invariant-loop g l = (l.taken.items ≡ take l.counter l.fn.self) × (l.self ≡ drop l.counter l.fn.self)
