use Rattle.std.proofs.Common.{take, map, ◌≡◌}
use Rattle.consistency.specs.Flattening.{FlatTo}
use Rattle.consistency.proofs.flat.lists_of.Given as goal

abbrev pub invariant-loop-i : goal.invariant-loop-i
invariant-loop-i l = (l.flat.promises ≡ l.promises) × (l.flat.on.items ≡ map (λ c. c.on) (take l.i l.clauses)) × FlatTo l.given l.clauses l.i l.flat
