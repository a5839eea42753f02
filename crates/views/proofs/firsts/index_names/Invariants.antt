use Rattle.std.proofs.Common.{◌≤◌, length}
use Rattle.views.specs.Indexes.{NamesFrom}
use Rattle.views.proofs.firsts.index_names.Given as goal

-- those from `at` on are in the map
abbrev pub invariant-loop-at : goal.invariant-loop-at
invariant-loop-at l = record { within : l.at ≤ length l.names; has : NamesFrom l.index l.at l.names }

abbrev pub decreases-loop-at : goal.decreases-loop-at
decreases-loop-at l = l.at
