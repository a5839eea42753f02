use Rattle.std.proofs.Common.{◌≡◌, ◌++◌, drop}
use Rattle.std.specs.List.{flat_map}
use Rattle.bound_unit.specs.Names.{target_names}
use Rattle.bound_unit.proofs.names.put_targets.Given as goal

-- the names so far and those of what is left are all
abbrev pub invariant-loop-target : goal.invariant-loop-target
invariant-loop-target l = l.names ++ flat_map (target_names l.params) (drop l.target-index l.targets) ≡ l.fn.names ++ flat_map (target_names l.params) l.targets
