use Rattle.std.proofs.Common.{◌≡◌, ◌≤◌, ◌||◌, take, length}
use Rattle.bound_tree.specs.Live.{spent_before, spends_in}
use Rattle.bound_tree.specs.Ways.{whole}
use Rattle.bound_tree.proofs.passes.+before.Given as goal

abbrev pub invariant-spent_before-loop-number : goal.invariant-spent_before-loop-number
invariant-spent_before-loop-number l = record { low : l.number ≤ length l.flow; is : (l.found || spent_before l.local (spends_in l.spends) l.at (whole (take l.number l.flow)) l.gone) ≡ spent_before l.local (spends_in l.spends) l.at (whole l.flow) l.before }

abbrev pub decreases-spent_before-loop-number : goal.decreases-spent_before-loop-number
decreases-spent_before-loop-number l = l.number
