-- What is proved of typed expressions, each as one statement.
use Rattle.std.specs.Prelude.{◌≡◌, true, is_some}
use Rattle.bound_tree.specs.Tree.{Term}
use Rattle.lowering.specs.Lower.{has_value}
use Rattle.typed_units.specs.Frames.{Frame, type_in}
use Rattle.typed_units.specs.Terms.{TermTyped}

-- a typed expression gives a value of the type that is told, unless it is a call of a method without result
abbrev pub TypedGives : Type 0
TypedGives = (f : Frame) (e : Term) → TermTyped f e → has_value e ≡ true → is_some (type_in e) ≡ true
