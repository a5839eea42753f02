use Rattle.std.proofs.Common.{◌≡◌, ◌++◌, drop}
use Rattle.std.specs.List.{flat_map}
use Rattle.views.specs.Face.{face}
use Rattle.bound_unit.specs.Aboves.{aboves_as}
use Rattle.bound_unit.specs.Asked.{above_names}
use Rattle.unit_rules.proofs.consulted.put_all_above.Given as goal

-- those so far and those of what is left are all
abbrev pub invariant-loop-above : goal.invariant-loop-above
invariant-loop-above l = l.names ++ flat_map (above_names (face l.view)) (aboves_as (drop l.above-index l.above-items)) ≡ l.fn.names ++ flat_map (above_names (face l.view)) (aboves_as l.above-items)
