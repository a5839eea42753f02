use Rattle.std.proofs.Common.{◌≡◌, ◌++◌, drop}
use Rattle.scrub_rules.specs.Facts.{facts_of}
use Rattle.promise_scrub.specs.Surfaces.{assumptions_of}
use Rattle.promise_scrub.proofs.assume.assumptions_of.Given as goal

-- those so far and those of the annotations that are left are all
abbrev pub invariant-loop-i : goal.invariant-loop-i
invariant-loop-i l = l.out ++ assumptions_of (facts_of l.at) (drop l.i l.marks) (drop l.i l.codes) ≡ assumptions_of (facts_of l.at) l.marks l.codes
