use Rattle.std.proofs.Common.{◌≡◌, ◌≤◌, length, map, drop}
use Rattle.bound_tree.specs.Reading.{term_of}
use Rattle.expression_binding.specs.Bound.{any_bad}
use Rattle.expression_binding.proofs.fit.any_bad.Given as goal

-- found is whether one of those from the place on is bad
abbrev pub invariant-loop-at : goal.invariant-loop-at
invariant-loop-at l = record { low : l.at ≤ length l.list; is : l.found ≡ any_bad (map term_of (drop l.at l.list)) }

abbrev pub decreases-loop-at : goal.decreases-loop-at
decreases-loop-at l = l.at
