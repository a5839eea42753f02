-- Units that are typed, as their classes show them.
use Rattle.std.specs.Prelude.{◌≡◌, ℕ, Bool, true, false, nat_lt, List, ◌++◌, length, Option, Some, None, is_some, codes}
use Rattle.std.specs.List.{AllByRecursion}
use Rattle.class_faces.specs.Keys.{member_key}
use Rattle.class_faces.specs.declared.face.FieldFace.{FieldFace}
use Rattle.class_faces.specs.declared.face.MemberFace.{MemberFace}
use Rattle.class_faces.specs.declared.face.ParamFace.{ParamFace}
use Rattle.bound_tree.specs.declared.name.ValueType.{ValueType}
use Rattle.bound_tree.specs.declared.name.ValueType.TheVariants as value
use Rattle.bound_tree.specs.declared.unit.Body.{Body}
use Rattle.bound_tree.specs.declared.unit.Initial.{Initial}
use Rattle.bound_tree.specs.declared.unit.Initial.TheVariants as initial
use Rattle.bound_tree.specs.declared.unit.Part.{Part}
use Rattle.bound_tree.specs.declared.unit.Part.TheVariants as part
use Rattle.bound_tree.specs.declared.unit.Word.{Word}
use Rattle.bound_tree.specs.Reading.{statement_of}
use Rattle.bound_tree.specs.Live.{live}
use Rattle.lowering.specs.CodeFlows.{part_flow}
use Rattle.lowering.specs.Endings.{part_may_end}
use Rattle.name_rules.specs.Types.{Name, Types, is_known, is_declared, is_interface, field_of, member_in, suits}
use Rattle.expression_binding.specs.Stamps.{judged_type, string_type, type_of, type_given}
use Rattle.bound_unit.specs.Names.{Faces}
use Rattle.bound_unit.specs.UnitFacts.{UnitFacts}
use Rattle.unit_rules.specs.Implements.{implements_all}
use Rattle.unit_rules.specs.Shown.{types_shown}
use Rattle.typed_units.specs.Frames.{Frame, is_known_value}
use Rattle.typed_units.specs.Declared.{args_types, declared_types}
use Rattle.typed_units.specs.Statements.{StatementTyped}

-- ---- headers

-- each name that the class implements is that of an interface, whose methods it has, each with equal types and not static
pub record IsImplemented (faces : Faces) (class : Name) (word : Word) : Type 0 where
  pub interface : is_interface (types_shown faces) word.name ≡ true
  pub answered : implements_all faces class word.name ≡ true

-- ---- fields

abbrev pub initial_type : Initial → ValueType
initial_type (initial.Int n) = value.Int
initial_type (initial.Boolean b) = value.Boolean
initial_type initial.Null = value.Null
initial_type (initial.Str text) = string_type
initial_type initial.FreshObject = value.Named (codes "Object")

-- the class's first field of the name in the key, whose initial value suits its type
pub record FieldTyped (types : Types) (class key : Name) (ty : ValueType) (i : Initial) : Type 0 where
  pub field : FieldFace
  pub keyed : key ≡ member_key class field.name None 1
  pub shown : field_of types class field.name ≡ Some field
  pub typed : ty ≡ type_of field.ty
  pub known : is_known types field.ty ≡ true
  pub suiting : suits types (judged_type (initial_type i)) field.ty ≡ true

-- ---- members

-- what the class shows of its member of the key, which is the first of its name and number of parameters
pub record MemberShown (types : Types) (class key : Name) (is_static : Bool) (result : Option ValueType) : Type 0 where
  pub face : MemberFace
  pub name : Name
  pub keyed : key ≡ member_key class name (Some (length face.params)) 1
  pub shown : member_in key (types class) ≡ Some face
  pub kind : face.is_static ≡ is_static
  pub gives : result ≡ type_given face.result

abbrev pub locals_in : Name → List ParamFace → Body → List ValueType
locals_in class params b = args_types b.is_static class params ++ declared_types (statement_of b.block)

abbrev pub frame_of : Types → Name → List ParamFace → Body → Frame
frame_of types class params b = record { types = types; locals = locals_in class params b; result = b.result }

-- a body whose parameters are these
pub record BodyTyped (types : Types) (class : Name) (params : List ParamFace) (b : Body) : Type 0 where
  pub known : AllByRecursion (λ (v : ValueType). is_known_value types v ≡ true) (locals_in class params b)
  pub code : StatementTyped (frame_of types class params b) (statement_of b.block)
  -- only `this` and the parameters can be named before they are set
  pub set : (x : ℕ) → live x (part_flow (part.Body b)) false ≡ true → nat_lt x (length (args_types b.is_static class params)) ≡ true
  -- it comes to no end without its result
  pub returns : is_some b.result ≡ true → part_may_end (part.Body b) ≡ false

pub record SigTyped (types : Types) (class key : Name) (result : Option ValueType) : Type 0 where
  pub member : MemberShown types class key false result
  pub known : AllByRecursion (λ (v : ValueType). is_known_value types v ≡ true) (args_types false class member.face.params)

pub record CodeTyped (types : Types) (class key : Name) (b : Body) : Type 0 where
  pub member : MemberShown types class key b.is_static b.result
  pub body : BodyTyped types class member.face.params b

-- ---- units

abbrev pub PartTyped : Faces → (class key : Name) → Part → Type 0
PartTyped faces class key (part.Header names) = AllByRecursion (IsImplemented faces class) names
PartTyped faces class key (part.Field ty i) = FieldTyped (types_shown faces) class key ty i
PartTyped faces class key (part.Sig params result) = SigTyped (types_shown faces) class key result
PartTyped faces class key (part.Body b) = CodeTyped (types_shown faces) class key b

-- Typed, of a unit under what is shown of each name
pub record TypedUnit (faces : Faces) (unit : UnitFacts) : Type 0 where
  pub own : is_declared (types_shown faces) unit.tree.class ≡ true
  pub part : PartTyped faces unit.tree.class unit.key unit.tree.part
