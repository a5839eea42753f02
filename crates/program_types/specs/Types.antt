-- The types of a program's classes and units, as the types are declared.
use Rattle.std.specs.Prelude.{ℕ, Bool, true, false, List, [], ◌∷◌, Option, Some, None, map, if◌then◌else◌}
use Rattle.std.specs.List.{list_any}
use Rattle.bound_tree.specs.declared.name.ValueType.{ValueType}
use Rattle.bound_tree.specs.declared.name.ValueType.TheVariants as value
use Rattle.bound_tree.specs.declared.unit.Part.{Part}
use Rattle.bound_tree.specs.declared.unit.Part.TheVariants as part
use Rattle.bound_tree.specs.Reading.{statement_of}
use Rattle.class_faces.specs.declared.face.FieldFace.{FieldFace}
use Rattle.class_faces.specs.declared.face.MemberFace.{MemberFace}
use Rattle.class_faces.specs.declared.face.ParamFace.{ParamFace}
use Rattle.promise_scrub.specs.declared.surface.Surface.{Surface}
use Rattle.core_types.specs.Types.{Ty, IntType, BoolType, TextType, NullType, ObjectType, RunnableType, ClassType, ClassTypes, UnitTypes, Types}
use Rattle.lowering.specs.Numbers.{Numbers, class_number}
use Rattle.bound_unit.specs.UnitFacts.{UnitFacts}
use Rattle.name_rules.specs.Types.{is_object, is_string, is_runnable}
use Rattle.expression_binding.specs.Stamps.{type_of}
use Rattle.typed_units.specs.Declared.{declared_types}
use Rattle.program_maker.specs.Seen.{Name}
use Rattle.program_maker.specs.Naming.{faces_of_kind, numbers_of}
use Rattle.program_maker.specs.Locals.{face_keyed}

-- ---- types by their names

-- Object, String and Runnable are no classes of the program
abbrev pub named_type : Numbers → Name → Ty
named_type r c =
    if is_object c then ObjectType else (if is_string c then TextType else (if is_runnable c then RunnableType else ClassType (class_number r c)))

-- the one parameter of a main is given null
abbrev pub value_type : Numbers → ValueType → Ty
value_type r value.Int = IntType
value_type r value.Boolean = BoolType
value_type r value.Null = NullType
value_type r (value.Named c) = named_type r c

abbrev pub value_types : Numbers → List ValueType → List Ty
value_types r vs = map (value_type r) vs

abbrev pub result_type : Numbers → Option ValueType → Option Ty
result_type r None = None
result_type r (Some v) = Some (value_type r v)

abbrev pub param_type : Numbers → ParamFace → Ty
param_type r p = value_type r (type_of p.ty)

abbrev pub param_types : Numbers → List ParamFace → List Ty
param_types r ps = map (param_type r) ps

abbrev pub field_type : Numbers → FieldFace → Ty
field_type r f = value_type r (type_of f.ty)

-- ---- classes

abbrev pub number_before : Option ℕ → List ℕ → List ℕ
number_before None ns = ns
number_before (Some n) ns = n ∷ ns

-- the numbers of those of the names that have one
abbrev pub numbers_in : (Name → Option ℕ) → List Name → List ℕ
numbers_in number [] = []
numbers_in number (n ∷ ns) = number_before (number n) (numbers_in number ns)

abbrev pub class_types : Numbers → Surface → ClassTypes
class_types r s = record {
  statics = map (field_type r) (faces_of_kind true s.fields);
  own = map (field_type r) (faces_of_kind false s.fields);
  implements = numbers_in r.class s.implements;
  runnable = list_any is_runnable s.implements;
}

-- ---- units

abbrev pub params_in : Option MemberFace → List ParamFace
params_in None = []
params_in (Some m) = m.params

abbrev pub this_type : Numbers → (is_static : Bool) → Name → List Ty
this_type r true class = []
this_type r false class = ClassType (class_number r class) ∷ []

-- of a unit of this class with these parameters; a header and a field run as a unit without locals
abbrev pub part_types : Numbers → Name → List ParamFace → Part → UnitTypes
part_types r class params (part.Header names) = record { this = []; params = []; others = []; result = None }
part_types r class params (part.Field ty i) = record { this = []; params = []; others = []; result = None }
part_types r class params (part.Sig given result) = record {
  this = this_type r false class;
  params = param_types r params;
  others = [];
  result = result_type r result;
}
part_types r class params (part.Body b) = record {
  this = this_type r b.is_static class;
  params = param_types r params;
  others = value_types r (declared_types (statement_of b.block));
  result = result_type r b.result;
}

abbrev pub unit_types : Numbers → List Surface → UnitFacts → UnitTypes
unit_types r surfaces u = part_types r u.tree.class (params_in (face_keyed surfaces u.tree.class u.key)) u.tree.part

-- ---- all of them

abbrev pub types_by : Numbers → List Surface → List UnitFacts → Types
types_by r surfaces units = record { classes = map (class_types r) surfaces; units = map (unit_types r surfaces) units }

-- TypesOf: those of the program of these types and units
abbrev pub types_of : List Surface → List UnitFacts → Types
types_of surfaces units = types_by (numbers_of surfaces units) surfaces units
