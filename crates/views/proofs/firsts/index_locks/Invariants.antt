use Rattle.std.proofs.Common.{◌≤◌, length}
use Rattle.views.specs.Indexes.{LocksFrom}
use Rattle.views.proofs.firsts.index_locks.Given as goal

-- those from `at` on are in the map
abbrev pub invariant-loop-at : goal.invariant-loop-at
invariant-loop-at l = record { within : l.at ≤ length l.standing; has : LocksFrom l.index l.at l.standing }

abbrev pub decreases-loop-at : goal.decreases-loop-at
decreases-loop-at l = l.at
