use Rattle.std.proofs.Common.{replicate, map, ◌≡◌, []}
use Rattle.consistency.proofs.rounds.empty_rows.Given as goal

abbrev pub invariant-loop : goal.invariant-loop
invariant-loop l = map (λ r. r.items) l.rows.items ≡ replicate l.counter []
