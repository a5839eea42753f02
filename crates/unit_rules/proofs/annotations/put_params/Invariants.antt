use Rattle.std.proofs.Common.{◌≡◌, ◌++◌, drop}
use Rattle.std.specs.List.{flat_map}
use Rattle.tree_places.specs.Numbers.{number_of}
use Rattle.unit_rules.specs.Annotations.{param_begins}
use Rattle.unit_rules.proofs.annotations.put_params.Given as goal

-- those so far and those of what is left are all
abbrev pub invariant-loop-param : goal.invariant-loop-param
invariant-loop-param l = l.out ++ flat_map (param_begins (number_of l.places)) (drop l.param-index l.params) ≡ l.fn.out ++ flat_map (param_begins (number_of l.places)) l.params
