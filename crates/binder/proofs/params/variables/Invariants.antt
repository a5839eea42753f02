use Rattle.std.proofs.Common.{◌≡◌, map, take}
use Rattle.tree_places.specs.Numbers.{number_of}
use Rattle.binder.specs.Params.{variable_of}
use Rattle.binder.proofs.params.variables.Given as goal

-- those so far
abbrev pub invariant-loop-param : goal.invariant-loop-param
invariant-loop-param l = l.made ≡ map (variable_of (number_of l.places)) (take l.param-index l.params)
