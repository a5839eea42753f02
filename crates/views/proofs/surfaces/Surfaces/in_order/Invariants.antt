use Rattle.std.proofs.Common.{◌≡◌, ◌++◌, map}
use Rattle.views.specs.Filed.{lent}
use Rattle.views.proofs.surfaces.Surfaces.in_order.Given as goal

-- the surfaces so far and those that are left are all
abbrev pub invariant-loop-entry : goal.invariant-loop-entry
invariant-loop-entry l = lent l.list ++ map (λ e. e.1) l.entry-iterator ≡ l.fn.self
