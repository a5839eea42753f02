use Rattle.std.proofs.Common.{◌≡◌, ◌++◌, drop}
use Rattle.std.specs.List.{flat_map}
use Rattle.bound_unit.specs.Names.{standing_names}
use Rattle.bound_unit.proofs.names.put_standing.Given as goal

-- the names so far and those of the promises that are left are all
abbrev pub invariant-loop-at : goal.invariant-loop-at
invariant-loop-at l = l.names ++ flat_map (standing_names l.params) (drop l.at l.promises) ≡ l.fn.names ++ flat_map (standing_names l.params) l.promises
