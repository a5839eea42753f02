-- What each instruction takes from the temporaries, and what it pushes.
use Rattle.std.specs.Prelude.{ℕ, zero, suc, ◌==◌, ◌&&◌, ◌||◌, Bool, false, List, [], ◌∷◌, Option, Some, None, if◌then◌else◌, slice_get, reverse}
use Rattle.std.specs.Option.{option_to_list}
use Rattle.core_model.specs.Units.{unit_number}
use Rattle.core_model.specs.declared.program.TheConstants.{NEW, RUN}
use Rattle.core_model.specs.declared.program.Program.{Program}
use Rattle.core_model.specs.declared.program.ClassInfo.{ClassInfo}
use Rattle.core_model.specs.declared.program.UnitName.{UnitName}
use Rattle.core_model.specs.declared.instr.Known.{Known}
use Rattle.core_model.specs.declared.instr.Known.TheVariants as known
use Rattle.core_model.specs.declared.instr.Note.{Note}
use Rattle.core_model.specs.declared.instr.Op.{Op}
use Rattle.core_model.specs.declared.instr.Op.TheVariants as op
use Rattle.core_model.specs.declared.instr.Plain.{Plain}
use Rattle.core_model.specs.declared.instr.Plain.TheVariants as plain
use Rattle.core_model.specs.declared.value.Value.{Value}
use Rattle.core_model.specs.declared.value.Value.TheVariants as value
use Rattle.core_types.specs.Types.{Ty, IntType, BoolType, TextType, NullType, ObjectType, RunnableType, ClassType, AnyType, Types, UnitTypes, of_class, of_unit, args_of, locals_of, is_instance}
pub use Rattle.core_types.specs.Slots.{Use, Goes, Leaves, Wrong}

abbrev pub pushed : Option Ty → Use Ty
pushed None = Wrong
pushed (Some t) = Goes [] (t ∷ [])

abbrev pub popped : Option Ty → Use Ty
popped None = Wrong
popped (Some t) = Goes (t ∷ []) []

abbrev pub field_read : ℕ → Option Ty → Use Ty
field_read c None = Wrong
field_read c (Some t) = Goes (ClassType c ∷ []) (t ∷ [])

abbrev pub field_kept : ℕ → Option Ty → Use Ty
field_kept c None = Wrong
field_kept c (Some t) = Goes (ClassType c ∷ []) (t ∷ ClassType c ∷ [])

abbrev pub field_written : ℕ → Option Ty → Use Ty
field_written c None = Wrong
field_written c (Some t) = Goes (t ∷ ClassType c ∷ []) []

-- of a field of the class that is noted
abbrev pub of_field : (ℕ → Option Ty → Use Ty) → Types → Known → ℕ → Use Ty
of_field use_by T known.Nothing i = Wrong
of_field use_by T (known.Class c) i = use_by c (slice_get (of_class T c).own i)
of_field use_by T (known.Monitor m) i = Wrong

abbrev pub of_const : Value → Use Ty
of_const (value.Int x) = Goes [] (IntType ∷ [])
of_const (value.Bool b) = Goes [] (BoolType ∷ [])
of_const (value.Str s) = Goes [] (TextType ∷ [])
of_const value.Null = Goes [] (NullType ∷ [])
of_const (value.Ref r) = Wrong

-- whether one of the members has the name
abbrev pub lists_name : ℕ → List UnitName → Bool
lists_name m [] = false
lists_name m (u ∷ us) = (u.name == m) || lists_name m us

-- a class that lists no constructor is made without arguments
abbrev pub made_bare : ℕ → ℕ → Bool → Use Ty
made_bare c zero listed = if listed then Wrong else Goes [] (ClassType c ∷ [])
made_bare c (suc n) listed = Wrong

-- the constructor takes its arguments
abbrev pub constructed : Types → ℕ → ℕ → Bool → Option ℕ → Use Ty
constructed T c n listed None = made_bare c n listed
constructed T c n listed (Some u) = if is_instance (of_unit T u) then Goes (reverse (of_unit T u).params) (ClassType c ∷ []) else Wrong

abbrev pub of_make : Program → Types → ℕ → ℕ → Option ClassInfo → Use Ty
of_make p T c n None = Wrong
of_make p T c n (Some info) = constructed T c n (lists_name NEW info.units) (unit_number p c NEW n)

-- a call of the unit: `this`, where it has one, is beneath its arguments
abbrev pub called : UnitTypes → Use Ty
called u = Goes (reverse (args_of u)) (option_to_list u.result)

abbrev pub called_on : Types → Option ℕ → Use Ty
called_on T None = Wrong
called_on T (Some u) = if is_instance (of_unit T u) then called (of_unit T u) else Wrong

abbrev pub called_static : Types → Option ℕ → Use Ty
called_static T None = Wrong
called_static T (Some u) = if is_instance (of_unit T u) then Wrong else called (of_unit T u)

-- no call names a constructor
abbrev pub unless_new : ℕ → Use Ty → Use Ty
unless_new m u = if m == NEW then Wrong else u

-- by the static class of the receiver; without one that is Runnable, whose one method is `run`
abbrev pub of_call : Program → Types → Known → ℕ → ℕ → Use Ty
of_call p T known.Nothing m n = if (m == RUN) && (n == 0) then Goes (RunnableType ∷ []) [] else Wrong
of_call p T (known.Class c) m n = unless_new m (called_on T (unit_number p c m n))
of_call p T (known.Monitor k) m n = Wrong

abbrev pub arithmetic : Use Ty
arithmetic = Goes (IntType ∷ IntType ∷ []) (IntType ∷ [])

abbrev pub comparison : Use Ty
comparison = Goes (IntType ∷ IntType ∷ []) (BoolType ∷ [])

abbrev pub equality : Use Ty
equality = Goes (AnyType ∷ AnyType ∷ []) (BoolType ∷ [])

abbrev pub of_op : Op → Use Ty
of_op op.Add = arithmetic
of_op op.Subtract = arithmetic
of_op op.Multiply = arithmetic
of_op op.Divide = arithmetic
of_op op.Remainder = arithmetic
of_op op.Less = comparison
of_op op.Greater = comparison
of_op op.AtMost = comparison
of_op op.AtLeast = comparison
of_op op.Equal = equality
of_op op.NotEqual = equality

abbrev pub returned : Option Ty → Use Ty
returned None = Wrong
returned (Some t) = Leaves (t ∷ [])

-- in a unit of these types
abbrev pub use_of : Program → Types → UnitTypes → Note → Plain → Use Ty
use_of p T u n (plain.Const v) = of_const v
use_of p T u n (plain.Get i) = pushed (slice_get (locals_of u) i)
use_of p T u n (plain.Set i) = popped (slice_get (locals_of u) i)
use_of p T u n plain.Drop = Goes (AnyType ∷ []) []
use_of p T u n (plain.Field i) = of_field field_read T n.known i
use_of p T u n (plain.FieldKeep i) = of_field field_kept T n.known i
use_of p T u n (plain.PutField i) = of_field field_written T n.known i
use_of p T u n (plain.Static c i) = pushed (slice_get (of_class T c).statics i)
use_of p T u n (plain.PutStatic c i) = popped (slice_get (of_class T c).statics i)
use_of p T u n (plain.Make c k) = of_make p T c k (slice_get p.classes c)
use_of p T u n plain.MakePlain = Goes [] (ObjectType ∷ [])
use_of p T u n (plain.Call m k) = of_call p T n.known m k
use_of p T u n (plain.CallStatic c m k) = unless_new m (called_static T (unit_number p c m k))
use_of p T u n (plain.Op o) = of_op o
use_of p T u n plain.Neg = Goes (IntType ∷ []) (IntType ∷ [])
use_of p T u n plain.Not = Goes (BoolType ∷ []) (BoolType ∷ [])
use_of p T u n plain.Start = Goes (RunnableType ∷ []) []
use_of p T u n plain.Return = Leaves []
use_of p T u n plain.ReturnValue = returned u.result
