use Rattle.std.proofs.Common.{replicate, ◌≡◌}
use Rattle.std.specs.Prelude.{None}
use Rattle.consistency.proofs.rounds.none_left.Given as goal

abbrev pub invariant-loop : goal.invariant-loop
invariant-loop l = l.left.items ≡ replicate l.counter None
