use Rattle.std.proofs.Common.{◌≡◌, ◌≤◌, ◌++◌, drop, length}
use Rattle.lowering.specs.Steps.{list_steps}
use Rattle.lowering.proofs.steps.+steps.Given as goal

abbrev pub invariant-push_steps-loop-at : goal.invariant-push_steps-loop-at
invariant-push_steps-loop-at l = record { low : l.at ≤ length l.instrs; is : l.list ≡ l.fn.list ++ list_steps (drop l.at l.instrs) }

abbrev pub decreases-push_steps-loop-at : goal.decreases-push_steps-loop-at
decreases-push_steps-loop-at l = l.at
