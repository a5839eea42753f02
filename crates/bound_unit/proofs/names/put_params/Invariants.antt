use Rattle.std.proofs.Common.{◌≡◌, ◌++◌, drop}
use Rattle.std.specs.List.{flat_map}
use Rattle.bound_unit.specs.Names.{param_names}
use Rattle.bound_unit.proofs.names.put_params.Given as goal

-- the names so far and those of what is left are all
abbrev pub invariant-loop-param : goal.invariant-loop-param
invariant-loop-param l = l.names ++ flat_map param_names (drop l.param-index l.params) ≡ l.fn.names ++ flat_map param_names l.params
