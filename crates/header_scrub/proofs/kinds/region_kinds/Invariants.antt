use Rattle.std.proofs.Common.{take}
use Rattle.header_scrub.specs.Kinds.{region_kind}
use Rattle.header_scrub.specs.Kinds.{HasKinds}
use Rattle.header_scrub.proofs.kinds.region_kinds.Given as goal

-- those of the regions so far
abbrev pub invariant-loop-decl : goal.invariant-loop-decl
invariant-loop-decl l = HasKinds l.kinds (region_kind (take l.decl-index l.declared))
