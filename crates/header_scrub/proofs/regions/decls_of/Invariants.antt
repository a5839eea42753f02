use Rattle.std.proofs.Common.{◌≡◌, take}
use Rattle.header_scrub.specs.Regions.{decls_of}
use Rattle.header_scrub.proofs.regions.decls_of.Given as goal

-- the regions so far
abbrev pub invariant-loop-mark : goal.invariant-loop-mark
invariant-loop-mark l = l.declared ≡ decls_of l.site (take l.mark-index l.marks)
