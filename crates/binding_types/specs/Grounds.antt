-- Where an expression is bound, in a frame in which it is typed.
use Rattle.std.specs.Prelude.{◌≡◌, true, false, List, Option, Some, None}
use Rattle.std.specs.List.{AllByRecursion, slice_get}
use Rattle.bound_tree.specs.declared.name.ValueType.{ValueType}
use Rattle.bound_tree.specs.declared.name.ValueType.TheVariants as value
use Rattle.name_rules.specs.declared.scope.Entry.{Entry}
use Rattle.name_rules.specs.declared.scope.Variable.{Variable}
use Rattle.name_rules.specs.Types.{Types, is_known}
use Rattle.name_rules.specs.Scopes.{Scope}
use Rattle.expression_binding.specs.Bound.{Ground}
use Rattle.expression_binding.specs.Stamps.{type_of}
use Rattle.typed_units.specs.Frames.{Frame}
use Rattle.typed_units.specs.Standing.{TypesStand}

abbrev pub frame_on : Ground → List ValueType → Option ValueType → Frame
frame_on g locals result = record { types = g.types; locals = locals; result = result }

-- the types stand, and in a place that isn't static local 0 is an object of the own class
pub record GroundFits (g : Ground) (locals : List ValueType) : Type 0 where
  pub stand : TypesStand g.types
  pub this : g.is_static ≡ false → slice_get locals 0 ≡ Some (value.Named g.class)

-- a name in scope is that of a local with the declared type, which is there
pub record VariableFits (types : Types) (locals : List ValueType) (v : Variable) : Type 0 where
  pub kept : slice_get locals v.number ≡ Some (type_of v.ty)
  pub known : is_known types v.ty ≡ true

abbrev pub NameFits : Types → List ValueType → Option Variable → Type 0
NameFits types locals None = Unit {0}
NameFits types locals (Some v) = VariableFits types locals v

abbrev pub EntryFits : Types → List ValueType → Entry → Type 0
EntryFits types locals e = NameFits types locals e.variable

abbrev pub ScopeFits : Types → List ValueType → Scope → Type 0
ScopeFits types locals scope = AllByRecursion (EntryFits types locals) scope
