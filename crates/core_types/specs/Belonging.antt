-- Which values belong to a type (JLS 8, 4.1 and 4.3).
use Rattle.std.specs.Prelude.{◌≡◌, ℕ, ◌||◌, Bool, true, false, List, [], ◌∷◌, Option, Some, None, slice_get}
use Rattle.core_model.specs.declared.object.Obj.{Obj}
use Rattle.core_model.specs.declared.object.ObjKind.{ObjKind}
use Rattle.core_model.specs.declared.object.ObjKind.TheVariants as kind
use Rattle.core_model.specs.declared.value.Value.{Value}
use Rattle.core_model.specs.declared.value.Value.TheVariants as value
use Rattle.core_laws.specs.Shape.{kind_of}
use Rattle.core_types.specs.Types.{Ty, IntType, BoolType, TextType, NullType, ObjectType, RunnableType, ClassType, AnyType, Types, is_class, is_runnable}

abbrev pub is_int : Value → Bool
is_int (value.Int x) = true
is_int _ = false

abbrev pub is_bool : Value → Bool
is_bool (value.Bool b) = true
is_bool _ = false

abbrev pub is_text : Value → Bool
is_text (value.Str s) = true
is_text _ = false

abbrev pub is_null : Value → Bool
is_null value.Null = true
is_null _ = false

abbrev pub if_kind : Option ObjKind → (ObjKind → Bool) → Bool
if_kind None test = false
if_kind (Some k) test = test k

-- null, or a reference to an object that passes the test
abbrev pub refers : List Obj → Value → (ObjKind → Bool) → Bool
refers os value.Null test = true
refers os (value.Ref r) test = if_kind (kind_of (slice_get os r)) test
refers os _ test = false

-- an object, and no holder: no value refers to a holder
abbrev pub is_object : ObjKind → Bool
is_object (kind.Holder c) = false
is_object (kind.Made c) = true
is_object kind.Plain = true

-- made of a class that implements Runnable
abbrev pub may_run : Types → ObjKind → Bool
may_run T (kind.Holder c) = false
may_run T (kind.Made c) = is_runnable T c
may_run T kind.Plain = false

-- made of class d, or of a class that implements it
abbrev pub is_of : Types → ℕ → ObjKind → Bool
is_of T d (kind.Holder c) = false
is_of T d (kind.Made c) = is_class T d c
is_of T d kind.Plain = false

abbrev pub belongs : Types → List Obj → Value → Ty → Bool
belongs T os v IntType = is_int v
belongs T os v BoolType = is_bool v
belongs T os v TextType = is_text v || is_null v
belongs T os v NullType = is_null v
belongs T os v ObjectType = refers os v is_object
belongs T os v RunnableType = refers os v (may_run T)
belongs T os v (ClassType d) = refers os v (is_of T d)
belongs T os v AnyType = is_int v || is_bool v || is_text v || refers os v is_object

-- the value belongs to the type, the objects being these
abbrev pub Belongs : Types → List Obj → Value → Ty → Type 0
Belongs T os v t = belongs T os v t ≡ true

-- the values belong to the types, one by one
abbrev pub AllBelong : Types → List Obj → List Value → List Ty → Type 0
AllBelong T os [] [] = Unit {0}
AllBelong T os [] (t ∷ ts) = ⊥
AllBelong T os (v ∷ vs) [] = ⊥
AllBelong T os (v ∷ vs) (t ∷ ts) = Belongs T os v t × AllBelong T os vs ts

-- each value of the first type is one of the second, whatever the objects
abbrev pub Suits : Types → Ty → Ty → Type 0
Suits T s t = (os : List Obj) (v : Value) → Belongs T os v s → Belongs T os v t
