use Rattle.std.proofs.Common.{◌≡◌, ℕ, ◌+◌, ◌-◌, vec_len}
use Rattle.bound_tree.specs.Claims.{varies_in}
use Rattle.bound_tree.proofs.assigned.lengthen.Given as goal

abbrev pub invariant-loop-table : goal.invariant-loop-table
invariant-loop-table l = (x : ℕ) → varies_in l.table.items x ≡ varies_in l.fn.table.items x

abbrev pub decreases-loop-table : goal.decreases-loop-table
decreases-loop-table l = (l.number + 1) - vec_len l.table
