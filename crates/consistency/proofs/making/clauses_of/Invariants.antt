use Rattle.std.proofs.Common.{take}
use Rattle.std.specs.List.{AllZip}
use Rattle.consistency.specs.Graph.{ClauseOf}
use Rattle.consistency.proofs.making.clauses_of.Given as goal

abbrev pub invariant-loop-finding : goal.invariant-loop-finding
invariant-loop-finding l = AllZip (ClauseOf l.keys l.words.items) l.made.items (take l.finding-index l.findings)
