use Rattle.std.proofs.Common.{◌≡◌, ◌≤◌, take, length}
use Rattle.bound_tree.specs.Live.{spent, spends_in}
use Rattle.bound_tree.specs.Ways.{whole}
use Rattle.bound_tree.proofs.passes.+spent.Given as goal

abbrev pub invariant-spent-loop-at : goal.invariant-spent-loop-at
invariant-spent-loop-at l = record { low : l.at ≤ length l.flow; is : spent l.local (spends_in l.spends) (whole (take l.at l.flow)) l.gone ≡ spent l.local (spends_in l.spends) (whole l.flow) l.before }

abbrev pub decreases-spent-loop-at : goal.decreases-spent-loop-at
decreases-spent-loop-at l = l.at
