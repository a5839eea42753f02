use Rattle.std.proofs.Common.{◌-◌, ◌+◌, ◌≤◌}
use Rattle.consistency.specs.Steps.{Level, Taken, InOrder, LeftBy}
use Rattle.consistency.proofs.rounds.rounds_of.Given as goal

abbrev pub invariant-levels : goal.invariant-levels
invariant-levels l = (1 ≤ l.round) × Level l.flat (l.round - 1) l.state.dead.items l.state.living.items l.state.left.items l.state.front.items
    × Taken (l.round - 1) l.state.left.items l.state.front.items × InOrder l.state.left.items l.order.items × LeftBy l.round l.state.left.items

abbrev pub decreases-levels : goal.decreases-levels
decreases-levels l = l.flat.promises + 1 - l.round
