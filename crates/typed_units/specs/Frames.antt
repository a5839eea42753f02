-- Where code stands, and which value suits what.
use Rattle.std.specs.Prelude.{◌≡◌, ℕ, Bool, true, false, List, Option, Some, None}
use Rattle.std.specs.List.{slice_get}
use Rattle.class_faces.specs.declared.face.FaceTy.{FaceTy}
use Rattle.class_faces.specs.declared.face.FaceTy.TheVariants as face
use Rattle.bound_tree.specs.declared.name.ValueType.{ValueType}
use Rattle.bound_tree.specs.declared.name.ValueType.TheVariants as value
use Rattle.bound_tree.specs.Tree.{Term, stamp_of}
use Rattle.name_rules.specs.Types.{Types, is_known, suits, compares, has_monitor, can_start}
use Rattle.expression_binding.specs.Stamps.{judged_type}

-- the declared types; the types of a unit's `this`, parameters and other locals, by their numbers; and the type of what it
-- returns, if it returns something
pub record Frame : Type 0 where
  pub types : Types
  pub locals : List ValueType
  pub result : Option ValueType

-- the local of the number has this type
pub record IsLocal (f : Frame) (x : ℕ) (ty : Option ValueType) : Type 0 where
  pub own : ValueType
  pub is : ty ≡ Some own
  pub kept : slice_get f.locals x ≡ Some own

-- the declared type of what has such values
abbrev pub declared_as : ValueType → FaceTy
declared_as value.Int = face.Int
declared_as value.Boolean = face.Bool
declared_as value.Null = face.Args
declared_as (value.Named c) = face.Named c

-- there is such a type
abbrev pub is_known_value : Types → ValueType → Bool
is_known_value types v = is_known types (declared_as v)

-- ---- of the type of an expression, which has none where it gives no value

abbrev pub given_suits : Types → Option ValueType → FaceTy → Bool
given_suits types None ty = false
given_suits types (Some v) ty = suits types (judged_type v) ty

abbrev pub given_compares : Types → Option ValueType → Option ValueType → Bool
given_compares types None w = false
given_compares types (Some v) None = false
given_compares types (Some v) (Some w) = compares types (judged_type v) (judged_type w)

abbrev pub given_locks : Option ValueType → Bool
given_locks None = false
given_locks (Some v) = has_monitor (judged_type v)

abbrev pub given_starts : Types → Option ValueType → Bool
given_starts types None = false
given_starts types (Some v) = can_start types (judged_type v)

-- ---- of an expression

abbrev pub type_in : Term → Option ValueType
type_in e = (stamp_of e).ty

-- its value suits what is declared so
abbrev pub Suited : Types → Term → FaceTy → Type 0
Suited types e ty = given_suits types (type_in e) ty ≡ true

-- `==` compares the two values
abbrev pub Compared : Types → Term → Term → Type 0
Compared types a b = given_compares types (type_in a) (type_in b) ≡ true

-- a `synchronized` statement can lock its value
abbrev pub Locked : Term → Type 0
Locked e = given_locks (type_in e) ≡ true

-- a thread can be started with its value
abbrev pub Started : Types → Term → Type 0
Started types e = given_starts types (type_in e) ≡ true
