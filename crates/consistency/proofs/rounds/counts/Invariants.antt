use Rattle.std.proofs.Common.{length, ◌≡◌}
use Rattle.consistency.proofs.Marks.{CountedTo}
use Rattle.consistency.proofs.rounds.counts.Given as goal

abbrev pub invariant-loop-a : goal.invariant-loop-a
invariant-loop-a l = (length l.living.items ≡ l.findings) × CountedTo l.finding l.dead l.living.items l.a
