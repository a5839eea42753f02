use Rattle.std.proofs.Common.{◌≡◌, [], length}
use Rattle.unit_rules.specs.Consulted.{put_among}
use Rattle.unit_rules.proofs.consulted.set_of.Given as goal

-- those that are left put among those that were taken
abbrev pub invariant-loop-name : goal.invariant-loop-name
invariant-loop-name l = put_among l.names l.set.keys ≡ put_among l.initial.names []

abbrev pub decreases-loop-name : goal.decreases-loop-name
decreases-loop-name l = length l.names
