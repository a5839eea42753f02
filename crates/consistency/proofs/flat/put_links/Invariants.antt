use Rattle.std.proofs.Common.{take}
use Rattle.consistency.specs.Flattening.{AddsLinks}
use Rattle.consistency.proofs.flat.put_links.Given as goal

abbrev pub invariant-loop-link : goal.invariant-loop-link
invariant-loop-link l = AddsLinks l.initial.flat l.flat l.way (take l.link-index l.links)
