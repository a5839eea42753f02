use Rattle.std.proofs.Common.{◌≡◌, ◌++◌, drop}
use Rattle.header_scrub.specs.Regions.{codes_with}
use Rattle.header_scrub.proofs.regions.region_codes.Given as goal

-- the annotations that are left complete those so far
abbrev pub invariant-loop-mark : goal.invariant-loop-mark
invariant-loop-mark l = l.codes ++ codes_with l.site (drop l.mark-index l.marks) l.left ≡ codes_with l.site l.marks l.aside
