use Rattle.std.proofs.Common.{◌≡◌}
use Rattle.unit_rules.proofs.consulted.in_order.Given as goal

-- those so far
abbrev pub invariant-loop-name : goal.invariant-loop-name
invariant-loop-name l = l.out ≡ l.yielded
