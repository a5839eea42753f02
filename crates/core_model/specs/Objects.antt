-- Objects: their fields and their monitors, and how new ones begin.
use Rattle.std.specs.Prelude.{ℕ, ◌+◌, ◌-◌, ◌==◌, Bool, true, false, not, List, [], ◌∷◌, ◌++◌, Option, Some, None, if◌then◌else◌, length, slice_get, slice_set, replicate, map, filter}
use Rattle.core_model.specs.Operators.{same_bool}
use Rattle.core_model.specs.declared.program.FieldInfo.{FieldInfo}
use Rattle.core_model.specs.declared.program.Initial.{Initial}
use Rattle.core_model.specs.declared.program.Initial.TheVariants.{Held, FreshObject}
use Rattle.core_model.specs.declared.object.Obj.{Obj}
use Rattle.core_model.specs.declared.object.ObjKind.{ObjKind}
use Rattle.core_model.specs.declared.object.ObjKind.TheVariants as kind
use Rattle.core_model.specs.declared.value.Value.{Value}
use Rattle.core_model.specs.declared.value.Value.TheVariants as value

abbrev pub field_of : Option Obj → ℕ → Option Value
field_of None i = None
field_of (Some o) i = slice_get o.fields i

-- the object's field of the number
abbrev pub field_at : List Obj → ℕ → ℕ → Option Value
field_at objects r i = field_of (slice_get objects r) i

abbrev pub with_field : Obj → ℕ → Value → Obj
with_field o i v = record o { fields = slice_set o.fields i v }

abbrev pub put_for : List Obj → ℕ → Option Obj → (Obj → Obj) → List Obj
put_for objects r None f = objects
put_for objects r (Some o) f = slice_set objects r (f o)

-- the objects with one of them changed
abbrev pub changed : List Obj → ℕ → (Obj → Obj) → List Obj
changed objects r f = put_for objects r (slice_get objects r) f

-- the class that the object was made of
abbrev pub made_of : ObjKind → Option ℕ
made_of (kind.Holder c) = None
made_of (kind.Made c) = Some c
made_of kind.Plain = None

abbrev pub class_of : Option Obj → Option ℕ
class_of None = None
class_of (Some o) = made_of o.kind

-- whether another thread than t owns it
abbrev pub is_other : ℕ → Option ℕ → Bool
is_other t None = false
is_other t (Some s) = not (s == t)

abbrev pub blocks : ℕ → Option Obj → Bool
blocks t None = false
blocks t (Some o) = is_other t o.owner

-- the object once t has entered its monitor, the first time or again
abbrev pub entered : ℕ → Obj → Obj
entered t o = record o { owner = Some t; count = o.count + 1 }

-- the object once its monitor is counted down; at 0 it is free
abbrev pub exited : Obj → Obj
exited o = record o { owner = if o.count - 1 == 0 then None else o.owner; count = o.count - 1 }

-- an object as it begins
abbrev pub new_object : ObjKind → List Value → Obj
new_object k vs = record { kind = k; fields = vs; owner = None; count = 0 }

abbrev pub fresh_object : Obj
fresh_object = new_object kind.Plain []

-- how many fresh Objects the fields begin with
abbrev pub fresh_count : List Initial → ℕ
fresh_count [] = 0
fresh_count (Held v ∷ is) = fresh_count is
fresh_count (FreshObject ∷ is) = 1 + fresh_count is

-- the values that the fields begin with, their fresh Objects being numbered from n in order
abbrev pub initial_values : ℕ → List Initial → List Value
initial_values n [] = []
initial_values n (Held v ∷ is) = v ∷ initial_values n is
initial_values n (FreshObject ∷ is) = value.Ref n ∷ initial_values (n + 1) is

-- the static fields, or the others, in written order
abbrev pub of_kind : Bool → List FieldInfo → List FieldInfo
of_kind s fs = filter (λ (f : FieldInfo). same_bool s f.is_static) fs

-- how these fields begin
abbrev pub initials : Bool → List FieldInfo → List Initial
initials s fs = map (λ (f : FieldInfo). f.initial) (of_kind s fs)

-- how the fields of a holder, and those of a made object, begin
abbrev pub static_initials : List FieldInfo → List Initial
static_initials fs = initials true fs

abbrev pub own_initials : List FieldInfo → List Initial
own_initials fs = initials false fs

-- the objects with a new one of the class, and then its fields' fresh Objects
abbrev pub made : List Obj → ℕ → List FieldInfo → List Obj
made objects c fs =
    objects ++ new_object (kind.Made c) (initial_values (length objects + 1) (own_initials fs))
    ∷ replicate (fresh_count (own_initials fs)) fresh_object
