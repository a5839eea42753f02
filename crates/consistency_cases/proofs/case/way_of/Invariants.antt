use Rattle.consistency.specs.Among.{WayAmong}
use Rattle.consistency_cases.proofs.case.way_of.Given as goal

abbrev pub invariant-loop-link : goal.invariant-loop-link
invariant-loop-link l = WayAmong l.keys l.way.items
