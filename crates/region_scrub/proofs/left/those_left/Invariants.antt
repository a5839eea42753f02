use Rattle.std.proofs.Common.{◌≡◌, take}
use Rattle.region_scrub.specs.Clearing.{left}
use Rattle.region_scrub.proofs.left.those_left.Given as goal

abbrev pub invariant-loop-i : goal.invariant-loop-i
invariant-loop-i l = l.decls.items ≡ left (take l.i l.declared) l.aside
