-- What type names mean: which are known, what they show, and which value suits which place.
use Rattle.std.specs.Prelude.{ℕ, Bool, true, false, ◌&&◌, ◌||◌, not, List, [], ◌++◌, Option, Some, None, codes, find, nat_eq}
use Rattle.std.specs.List.{list_any, starts_with}
use Rattle.std.specs.Option.{is_some}
use Rattle.std.specs.Str.{bytes_eq}
use Rattle.java_tree.specs.declared.file.TypeKind.{TypeKind}
use Rattle.java_tree.specs.declared.file.TypeKind.TheVariants as kind
use Rattle.class_faces.specs.declared.face.FaceTy.{FaceTy}
use Rattle.class_faces.specs.declared.face.FaceTy.TheVariants as face
use Rattle.class_faces.specs.declared.face.FieldFace.{FieldFace}
use Rattle.class_faces.specs.declared.face.MemberFace.{MemberFace}
use Rattle.class_faces.specs.Keys.{counted, text_of}
use Rattle.name_rules.specs.declared.given.GivenType as written
use Rattle.name_rules.specs.declared.given.GivenType.TheVariants as given

abbrev pub Name : Type 0
Name = List ℕ

-- what a class or an interface says of itself to others, as far as binding asks
pub record Face : Type 0 where
  pub kind : TypeKind
  pub implements : List Name
  pub fields : List FieldFace
  pub members : List MemberFace

-- what is declared under a name
abbrev pub Types : Type 0
Types = Name → Option Face

-- ---- names of types

abbrev pub kind_in : Option Face → Option TypeKind
kind_in None = None
kind_in (Some f) = Some f.kind

abbrev pub is_class_kind : Option TypeKind → Bool
is_class_kind None = false
is_class_kind (Some kind.Class) = true
is_class_kind (Some kind.Interface) = false

abbrev pub is_interface_kind : Option TypeKind → Bool
is_interface_kind None = false
is_interface_kind (Some kind.Class) = false
is_interface_kind (Some kind.Interface) = true

abbrev pub is_class : Types → Name → Bool
is_class types c = is_class_kind (kind_in (types c))

abbrev pub is_declared : Types → Name → Bool
is_declared types c = is_some (kind_in (types c))

abbrev pub is_runnable : Name → Bool
is_runnable c = bytes_eq c (codes "Runnable")

abbrev pub is_object : Name → Bool
is_object c = bytes_eq c (codes "Object")

abbrev pub is_string : Name → Bool
is_string c = bytes_eq c (codes "String")

-- Object, String and Runnable are there without a declaration
abbrev pub is_built_in : Name → Bool
is_built_in c = is_object c || (is_string c || is_runnable c)

abbrev pub is_known_name : Types → Name → Bool
is_known_name types c = is_built_in c || is_declared types c

-- Runnable counts as an interface
abbrev pub is_interface : Types → Name → Bool
is_interface types c = is_runnable c || is_interface_kind (kind_in (types c))

abbrev pub lists_interface : Name → Option Face → Bool
lists_interface i None = false
lists_interface i (Some s) = list_any (λ n. bytes_eq n i) s.implements

-- a class implements an interface that it names
abbrev pub implements : Types → Name → Name → Bool
implements types c i = is_class types c && (is_interface types i && lists_interface i (types c))

-- ---- declared types

abbrev pub is_known : Types → FaceTy → Bool
is_known types face.Int = true
is_known types face.Bool = true
is_known types face.Args = true
is_known types (face.Named c) = is_known_name types c

-- ---- types of values

-- the type of a value: `Null` is that of `null`
pub data ValueType : Type 0 where
  Int : ValueType
  Boolean : ValueType
  Null : ValueType
  Named : Name → ValueType

abbrev pub shown_type : written.GivenType → ValueType
shown_type given.Int = Int
shown_type given.Boolean = Boolean
shown_type given.Null = Null
shown_type (given.Named c) = Named c.now

-- the type of a value of a declared type; nothing that can be named has that of a main's parameter
abbrev pub value_type : FaceTy → ValueType
value_type face.Int = Int
value_type face.Bool = Boolean
value_type face.Args = Null
value_type (face.Named c) = Named c

-- ---- what suits what (JLS 8, 4.10 and 5.2, as far as the subset goes)

-- the classes, the interfaces and Runnable; a String is no Object
abbrev pub is_object_kind : Types → Name → Bool
is_object_kind types c = is_declared types c || is_runnable c

-- each of these suits Object, and a class the interfaces that it implements
abbrev pub class_suits : Types → Name → Name → Bool
class_suits types c d = bytes_eq c d || ((is_object d && is_object_kind types c) || implements types c d)

abbrev pub is_int : ValueType → Bool
is_int Int = true
is_int Boolean = false
is_int Null = false
is_int (Named c) = false

abbrev pub is_boolean : ValueType → Bool
is_boolean Int = false
is_boolean Boolean = true
is_boolean Null = false
is_boolean (Named c) = false

abbrev pub is_null : ValueType → Bool
is_null Int = false
is_null Boolean = false
is_null Null = true
is_null (Named c) = false

abbrev pub is_reference : ValueType → Bool
is_reference Int = false
is_reference Boolean = false
is_reference Null = true
is_reference (Named c) = true

abbrev pub suits_name : Types → ValueType → Name → Bool
suits_name types Int d = false
suits_name types Boolean d = false
suits_name types Null d = true
suits_name types (Named c) d = class_suits types c d

-- `null` suits every type but int and boolean
abbrev pub suits : Types → ValueType → FaceTy → Bool
suits types v face.Int = is_int v
suits types v face.Bool = is_boolean v
suits types v face.Args = is_null v
suits types v (face.Named d) = suits_name types v d

abbrev pub name_compares : Types → Name → ValueType → Bool
name_compares types c Int = false
name_compares types c Boolean = false
name_compares types c Null = true
name_compares types c (Named d) = class_suits types c d || class_suits types d c

-- two ints, two booleans, or two references of which one suits the other (JLS 8, 15.21)
abbrev pub compares : Types → ValueType → ValueType → Bool
compares types Int w = is_int w
compares types Boolean w = is_boolean w
compares types Null w = is_reference w
compares types (Named c) w = name_compares types c w

-- what a `synchronized` statement can lock
abbrev pub has_monitor : ValueType → Bool
has_monitor Int = false
has_monitor Boolean = false
has_monitor Null = true
has_monitor (Named c) = not (is_string c)

-- what a thread can be started with: a Runnable, or an object of a class that implements it
abbrev pub can_start : Types → ValueType → Bool
can_start types Int = false
can_start types Boolean = false
can_start types Null = false
can_start types (Named c) = is_runnable c || (is_class types c && lists_interface (codes "Runnable") (types c))

-- ---- what a type shows: names find the first ones alone

abbrev pub field_in : Name → Option Face → Option FieldFace
field_in name None = None
field_in name (Some s) = find (λ (f : FieldFace). bytes_eq f.name name) s.fields

-- the first field of a name
abbrev pub field_of : Types → Name → Name → Option FieldFace
field_of types c name = field_in name (types c)

-- the key of the first member of a class with a name and so many parameters
abbrev pub member_key : Name → Name → ℕ → List ℕ
member_key c name count = text_of (c ++ codes "." ++ counted name count)

abbrev pub member_in : List ℕ → Option Face → Option MemberFace
member_in key None = None
member_in key (Some s) = find (λ (m : MemberFace). bytes_eq m.key key) s.members

abbrev pub members_in : Option Face → List MemberFace
members_in None = []
members_in (Some s) = s.members

-- what the keys of a class's constructors begin with
abbrev pub maker_front : Name → List ℕ
maker_front c = text_of (c ++ codes ".new/")

-- the first constructor
abbrev pub maker_in : Name → Option Face → Option MemberFace
maker_in c None = None
maker_in c (Some s) = find (λ (m : MemberFace). starts_with nat_eq m.key (maker_front c)) s.members
