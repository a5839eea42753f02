use Rattle.std.proofs.Common.{take}
use Rattle.consistency.specs.Flattening.{AddsWays, ways_of}
use Rattle.consistency.proofs.flat.put_ways.Given as goal

abbrev pub invariant-loop-links : goal.invariant-loop-links
invariant-loop-links l = AddsWays l.given l.initial.flat l.flat (ways_of l.finding (take l.links-index l.ways))
