use Rattle.std.proofs.Common.{take}
use Rattle.std.specs.List.{AllZip}
use Rattle.consistency.specs.Graph.{WayOf, Extends}
use Rattle.consistency.proofs.making.ways_of.Given as goal

abbrev pub invariant-loop-way : goal.invariant-loop-way
invariant-loop-way l = AllZip (WayOf l.keys l.words.items) l.made.items (take l.way-index l.ways) × Extends l.initial.words.items l.words.items
