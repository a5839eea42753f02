use Rattle.std.proofs.Common.{◌≡◌, ◌++◌, drop}
use Rattle.std.specs.List.{flat_map}
use Rattle.tree_places.specs.Numbers.{number_of}
use Rattle.unit_rules.specs.Annotations.{inner_begins}
use Rattle.unit_rules.proofs.annotations.put_all_inner.Given as goal

-- those so far and those of what is left are all
abbrev pub invariant-loop-annot : goal.invariant-loop-annot
invariant-loop-annot l = l.out ++ flat_map (inner_begins (number_of l.places) l.kind) (drop l.annot-index l.inner) ≡ l.fn.out ++ flat_map (inner_begins (number_of l.places) l.kind) l.inner
