use Rattle.std.proofs.Common.{take}
use Rattle.std.specs.List.{AllZip}
use Rattle.consistency.specs.Graph.{LinkOf, Extends}
use Rattle.consistency.proofs.making.links_of.Given as goal

abbrev pub invariant-loop-link : goal.invariant-loop-link
invariant-loop-link l = AllZip (LinkOf l.keys l.words.items) l.made.items (take l.link-index l.links) × Extends l.initial.words.items l.words.items
