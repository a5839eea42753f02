use Rattle.std.specs.Prelude.{All}
use Rattle.consistency.specs.Among.{WayAmong}
use Rattle.consistency_cases.proofs.case.ways_of.Given as goal

abbrev pub invariant-loop-links : goal.invariant-loop-links
invariant-loop-links l = All (WayAmong l.keys) l.made.items
