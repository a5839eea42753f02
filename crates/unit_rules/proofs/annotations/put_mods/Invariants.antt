use Rattle.std.proofs.Common.{◌≡◌, ◌++◌, drop}
use Rattle.std.specs.List.{flat_map}
use Rattle.tree_places.specs.Numbers.{number_of}
use Rattle.unit_rules.specs.Annotations.{mod_begins}
use Rattle.unit_rules.proofs.annotations.put_mods.Given as goal

-- those so far and those of what is left are all
abbrev pub invariant-loop-modifier : goal.invariant-loop-modifier
invariant-loop-modifier l = l.out ++ flat_map (mod_begins (number_of l.places)) (drop l.modifier-index l.mods) ≡ l.fn.out ++ flat_map (mod_begins (number_of l.places)) l.mods
