use Rattle.std.proofs.Common.{◌≡◌, ◌++◌, length}
use Rattle.std.specs.Prelude.{reverse}
use Rattle.finding_order.proofs.order.moved.Given as goal

-- what is left with what was moved, turned round
abbrev pub invariant-loop-last : goal.invariant-loop-last
invariant-loop-last l = l.items ++ reverse l.moved.items ≡ l.initial.items

abbrev pub decreases-loop-last : goal.decreases-loop-last
decreases-loop-last l = length l.items
