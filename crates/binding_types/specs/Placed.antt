-- Where the types of declared locals stand among those of a unit.
use Rattle.std.specs.Prelude.{◌≡◌, ℕ, suc, true, List, [], ◌∷◌, Some}
use Rattle.std.specs.List.{slice_get}
use Rattle.bound_tree.specs.declared.name.ValueType.{ValueType}
use Rattle.name_rules.specs.Types.{Types}
use Rattle.typed_units.specs.Frames.{is_known_value}

-- these types stand one after another, the first at n
abbrev pub Placed : List ValueType → ℕ → List ValueType → Type 0
Placed locals n [] = Unit {0}
Placed locals n (d ∷ ds) = (slice_get locals n ≡ Some d) × Placed locals (suc n) ds

-- each local's type is there
abbrev pub LocalsKnown : Types → List ValueType → Type 0
LocalsKnown types locals = (x : ℕ) (v : ValueType) → slice_get locals x ≡ Some v → is_known_value types v ≡ true
