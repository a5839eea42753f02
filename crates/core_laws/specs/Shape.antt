-- What each object is, and which fields it has.
use Rattle.std.specs.Prelude.{◌≡◌, ℕ, true, false, List, [], Option, Some, None, length, slice_get}
use Rattle.core_model.specs.Objects.{of_kind}
use Rattle.core_model.specs.declared.program.Program.{Program}
use Rattle.core_model.specs.declared.program.ClassInfo.{ClassInfo}
use Rattle.core_model.specs.declared.program.FieldInfo.{FieldInfo}
use Rattle.core_model.specs.declared.config.Config.{Config}
use Rattle.core_model.specs.declared.object.Obj.{Obj}
use Rattle.core_model.specs.declared.object.ObjKind.{ObjKind}
use Rattle.core_model.specs.declared.object.ObjKind.TheVariants as kind

abbrev pub kind_of : Option Obj → Option ObjKind
kind_of None = None
kind_of (Some o) = Some o.kind

-- what the object of the number is
abbrev pub kind_at : Config → ℕ → Option ObjKind
kind_at c r = kind_of (slice_get c.objects r)

abbrev pub class_fields : Option ClassInfo → List FieldInfo
class_fields None = []
class_fields (Some info) = info.fields

-- the fields that such an object has, in the order of their numbers
abbrev pub fields_of : Program → ObjKind → List FieldInfo
fields_of p (kind.Holder c) = of_kind true (class_fields (slice_get p.classes c))
fields_of p (kind.Made c) = of_kind false (class_fields (slice_get p.classes c))
fields_of p kind.Plain = []

abbrev pub HasItsFields : Program → List Obj → Type 0
HasItsFields p os = (r : ℕ) (o : Obj) → slice_get os r ≡ Some o → length o.fields ≡ length (fields_of p o.kind)

-- the first objects are the holders of the classes in order, and each object has the fields of what it is
pub record Shaped (p : Program) (c : Config) : Type 0 where
  pub holders : (k : ℕ) (info : ClassInfo) → slice_get p.classes k ≡ Some info → kind_at c k ≡ Some (kind.Holder k)
  pub fields : HasItsFields p c.objects
