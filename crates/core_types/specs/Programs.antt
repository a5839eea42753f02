-- Well typed programs.
use Rattle.std.specs.Prelude.{◌≡◌, ℕ, Bool, true, false, not, List, [], ◌∷◌, Option, Some, None, length, slice_get, is_some, nat_lt, codes}
use Rattle.core_model.specs.Code.{Code}
use Rattle.core_model.specs.Objects.{static_initials, own_initials}
use Rattle.core_model.specs.Units.{unit_number}
use Rattle.core_model.specs.declared.program.TheConstants.{NEW, MAIN, RUN}
use Rattle.core_model.specs.declared.program.Program.{Program}
use Rattle.core_model.specs.declared.program.ClassInfo.{ClassInfo}
use Rattle.core_model.specs.declared.program.UnitName.{UnitName}
use Rattle.core_model.specs.declared.program.UnitCode.{UnitCode}
use Rattle.core_model.specs.declared.program.Initial.{Initial}
use Rattle.core_model.specs.declared.program.Initial.TheVariants.{Held, FreshObject}
use Rattle.core_model.specs.declared.value.Value.TheVariants as value
use Rattle.core_laws.specs.Places.{Each}
use Rattle.core_laws.specs.Marks.{HasNoMarks}
use Rattle.core_types.specs.Types.{Ty, ObjectType, ClassType, Types, of_class, of_unit, args_of, locals_of, is_instance, is_runnable, has}
use Rattle.core_types.specs.Belonging.{Belongs, AllBelong, Suits}
use Rattle.core_types.specs.Need.{need, Fits}
use Rattle.core_types.specs.Paths.{reads, ends}

-- a field's initial value belongs to its type
abbrev pub InitialFits : Types → Initial → Ty → Type 0
InitialFits T (Held v) t = Belongs T [] v t
InitialFits T FreshObject t = Suits T ObjectType t

abbrev pub InitialsFit : Types → List Initial → List Ty → Type 0
InitialsFit T [] [] = Unit {0}
InitialsFit T [] (t ∷ ts) = ⊥
InitialsFit T (i ∷ is) [] = ⊥
InitialsFit T (i ∷ is) (t ∷ ts) = InitialFits T i t × InitialsFit T is ts

abbrev pub ThisFits : ℕ → List Ty → Type 0
ThisFits c [] = Unit {0}
ThisFits c (t ∷ ts) = (t ≡ ClassType c) × (ts ≡ [])

abbrev pub unit_class : Option UnitCode → Option ℕ
unit_class None = None
unit_class (Some code) = Some code.class

-- a member of class c: its name is there, its unit is one of that class and has as many parameters, and its `this`, if it has
-- one, is of that class
pub record MemberFits (p : Program) (T : Types) (c : ℕ) (m : UnitName) : Type 0 where
  pub named : is_some (slice_get p.members m.name) ≡ true
  pub there : is_some (slice_get p.units m.unit) ≡ true
  pub class : unit_class (slice_get p.units m.unit) ≡ Some c
  pub count : length (of_unit T m.unit).params ≡ m.params
  pub this : ThisFits c (of_unit T m.unit).this

-- a unit of the same parameters and result, with a `this` as the other
abbrev pub IsAlike : Types → ℕ → Option ℕ → Type 0
IsAlike T u None = ⊥
IsAlike T u (Some v) =
    (is_instance (of_unit T v) ≡ is_instance (of_unit T u))
    × ((of_unit T v).params ≡ (of_unit T u).params) × ((of_unit T v).result ≡ (of_unit T u).result)

-- class c has a member for each of interface d, which has no fields (JLS 8, 8.1.5)
pub record Implements (p : Program) (T : Types) (c d : ℕ) : Type 0 where
  pub fields : (of_class T d).own ≡ []
  pub members : (m n u : ℕ) → unit_number p d m n ≡ Some u → IsAlike T u (unit_number p c m n)

abbrev pub RunFits : Types → Option ℕ → Type 0
RunFits T None = ⊥
RunFits T (Some u) = (is_instance (of_unit T u) ≡ true) × ((of_unit T u).result ≡ None)

abbrev pub MainFits : Types → Option ℕ → Type 0
MainFits T None = ⊥
MainFits T (Some u) = (is_instance (of_unit T u) ≡ false) × AllBelong T [] (value.Null ∷ []) (of_unit T u).params

-- code of a unit with a result comes to no end but by ReturnValue
abbrev pub Returns : Option Ty → Bool → Code → Type 0
Returns None known k = Unit {0}
Returns (Some t) known k = ends known k true ≡ false

pub record UnitFits (p : Program) (T : Types) (u : ℕ) (code : UnitCode) : Type 0 where
  pub class : is_some (slice_get p.classes code.class) ≡ true
  pub long : length (locals_of (of_unit T u)) ≡ code.locals
  pub this : is_instance (of_unit T u) ≡ not code.is_static
  pub fits : Fits p T (of_unit T u) code.code []
  pub needs : need p T (of_unit T u) code.code [] ≡ []
  -- a local is read only once it is set
  pub set : (i : ℕ) → reads i code.code false ≡ true → nat_lt i (length (args_of (of_unit T u))) ≡ true
  pub returns : Returns (of_unit T u).result false code.code

-- the first member names are `new`, `main` and `run`
abbrev pub NamesFit : List (List ℕ) → Type 0
NamesFit names =
    (slice_get names NEW ≡ Some (codes "new")) × (slice_get names MAIN ≡ Some (codes "main")) × (slice_get names RUN ≡ Some (codes "run"))

-- the program is well typed by these types
pub record ProgramFits (p : Program) (T : Types) : Type 0 where
  pub long : length T.classes ≡ length p.classes
  pub names : NamesFit p.members
  pub statics : (c : ℕ) (info : ClassInfo) → slice_get p.classes c ≡ Some info
      → InitialsFit T (static_initials info.fields) (of_class T c).statics
  pub own : (c : ℕ) (info : ClassInfo) → slice_get p.classes c ≡ Some info → InitialsFit T (own_initials info.fields) (of_class T c).own
  pub members : (c : ℕ) (info : ClassInfo) → slice_get p.classes c ≡ Some info → Each (MemberFits p T c) info.units
  pub implements : (c d : ℕ) → has (of_class T c).implements d ≡ true → Implements p T c d
  pub runs : (c : ℕ) → is_runnable T c ≡ true → RunFits T (unit_number p c RUN 0)
  pub units : (u : ℕ) (code : UnitCode) → slice_get p.units u ≡ Some code → UnitFits p T u code
  pub mains : (c : ℕ) → has p.mains c ≡ true → MainFits T (unit_number p c MAIN 1)
  pub unmarked : HasNoMarks p

-- WellTyped, of a program: there are types by which it is
abbrev pub WellTyped : Program → Type 0
WellTyped p = (T : Types) × ProgramFits p T
