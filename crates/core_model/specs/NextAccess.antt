-- The field that the next step of a thread reads or writes.
use Rattle.std.specs.Prelude.{ℕ, Bool, true, false, List, Option, Some, None, if◌then◌else◌, slice_get}
use Rattle.core_model.specs.Objects.{of_kind}
use Rattle.core_model.specs.Code.{Code, Done, Do, If, While, Enter, EnterClass, Exit}
use Rattle.core_model.specs.declared.instr.Plain.{Plain}
use Rattle.core_model.specs.declared.instr.Plain.TheVariants as plain
use Rattle.core_model.specs.declared.program.Program.{Program}
use Rattle.core_model.specs.declared.program.ClassInfo.{ClassInfo}
use Rattle.core_model.specs.declared.program.FieldInfo.{FieldInfo}
use Rattle.core_model.specs.declared.object.Obj.{Obj}
use Rattle.core_model.specs.declared.object.ObjKind.{ObjKind}
use Rattle.core_model.specs.declared.object.ObjKind.TheVariants as kind
use Rattle.core_model.specs.declared.access.Access.{Access}
use Rattle.core_model.specs.declared.config.Call.{Call}
use Rattle.core_model.specs.declared.config.Config.{Config}
use Rattle.core_model.specs.declared.config.Thread.{Thread}
use Rattle.core_model.specs.declared.config.Mode.{Mode}
use Rattle.core_model.specs.declared.config.Mode.TheVariants as mode
use Rattle.core_model.specs.declared.value.Value.{Value}
use Rattle.core_model.specs.declared.value.Value.TheVariants as value

-- the field of the number among the static ones of a class, or among the others
abbrev pub field_in : Bool → Option ClassInfo → ℕ → Option FieldInfo
field_in s None i = None
field_in s (Some c) i = slice_get (of_kind s c.fields) i

-- what is declared of the field of such an object
abbrev pub declared_field : Program → ObjKind → ℕ → Option FieldInfo
declared_field program (kind.Holder c) i = field_in true (slice_get program.classes c) i
declared_field program (kind.Made c) i = field_in false (slice_get program.classes c) i
declared_field program kind.Plain i = None

abbrev pub field_of_object : Program → Option Obj → ℕ → Option FieldInfo
field_of_object program None i = None
field_of_object program (Some o) i = declared_field program o.kind i

abbrev pub unless_final : Option FieldInfo → Access → Option Access
unless_final None a = None
unless_final (Some f) a = if f.is_final then None else Some a

-- the access to the object's field, where it isn't final
abbrev pub access_to : Program → List Obj → ℕ → ℕ → Bool → Option Access
access_to program objects r i w =
    unless_final (field_of_object program (slice_get objects r) i) (record { object = r; field = i; write = w })

abbrev pub access_on : Program → List Obj → Option Value → ℕ → Bool → Option Access
access_on program objects (Some (value.Ref r)) i w = access_to program objects r i w
access_on program objects _ i w = None

-- the access of an instruction, by the temporaries
abbrev pub access_of : Program → List Obj → List Value → Plain → Option Access
access_of program objects ts (plain.Field i) = access_on program objects (slice_get ts 0) i false
access_of program objects ts (plain.FieldKeep i) = access_on program objects (slice_get ts 0) i false
access_of program objects ts (plain.PutField i) = access_on program objects (slice_get ts 1) i true
access_of program objects ts (plain.Static c i) = access_to program objects c i false
access_of program objects ts (plain.PutStatic c i) = access_to program objects c i true
access_of program objects ts _ = None

-- the first instruction, where it has no code inside
abbrev pub first_plain : Code → Option Plain
first_plain Done = None
first_plain (Do n p k) = Some p
first_plain (If n a b k) = None
first_plain (While n c b k) = None
first_plain (Enter n b k) = None
first_plain (EnterClass n c b k) = None
first_plain (Exit n r k) = None

abbrev pub access_by : Program → List Obj → List Value → Option Plain → Option Access
access_by program objects ts None = None
access_by program objects ts (Some p) = access_of program objects ts p

abbrev pub access_in : Program → List Obj → Mode → Option Call → Option Access
access_in program objects mode.Running (Some c) = access_by program objects c.temps (first_plain c.rest)
access_in program objects _ _ = None

abbrev pub access_by_thread : Program → List Obj → Option Thread → Option Access
access_by_thread program objects None = None
access_by_thread program objects (Some thread) = access_in program objects thread.mode (slice_get thread.calls 0)

-- NextAccess: what the next step of thread t reads or writes, if it is a field that isn't final
abbrev pub next_access : Program → Config → ℕ → Option Access
next_access program c t = access_by_thread program c.objects (slice_get c.threads t)
