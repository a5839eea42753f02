use Rattle.std.proofs.Common.{◌≡◌, ℕ, take}
use Rattle.bound_tree.specs.Claims.{among, varies_in}
use Rattle.bound_tree.proofs.assigned.table_of.Given as goal

abbrev pub invariant-loop-local : goal.invariant-loop-local
invariant-loop-local l = (x : ℕ) → varies_in l.table.items x ≡ among x (take l.local-index l.locals)
