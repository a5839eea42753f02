use Rattle.std.proofs.Common.{◌≤◌, length}
use Rattle.views.specs.Indexes.{FieldsFrom}
use Rattle.views.proofs.firsts.index_fields.Given as goal

-- those from `at` on are in the map
abbrev pub invariant-loop-at : goal.invariant-loop-at
invariant-loop-at l = record { within : l.at ≤ length l.fields; has : FieldsFrom l.index l.at l.fields }

abbrev pub decreases-loop-at : goal.decreases-loop-at
decreases-loop-at l = l.at
