-- Well typed configurations.
use Rattle.std.specs.Prelude.{◌≡◌, ℕ, Bool, true, false, List, [], ◌∷◌, Option, Some, None, length, slice_get, is_some}
use Rattle.core_model.specs.declared.program.Program.{Program}
use Rattle.core_model.specs.declared.object.Obj.{Obj}
use Rattle.core_model.specs.declared.object.ObjKind.{ObjKind}
use Rattle.core_model.specs.declared.object.ObjKind.TheVariants as kind
use Rattle.core_model.specs.declared.config.Call.{Call}
use Rattle.core_model.specs.declared.config.Config.{Config}
use Rattle.core_model.specs.declared.config.Thread.{Thread}
use Rattle.core_model.specs.declared.config.Gives.{Gives}
use Rattle.core_model.specs.declared.config.Gives.TheVariants.{Own, Object}
use Rattle.core_model.specs.declared.config.Mode.{Mode}
use Rattle.core_model.specs.declared.config.Mode.TheVariants as mode
use Rattle.core_model.specs.declared.value.Value.{Value}
use Rattle.core_model.specs.declared.value.Value.TheVariants as value
use Rattle.core_laws.specs.Places.{Each, EveryCall}
use Rattle.core_laws.specs.Marks.{Spined, Counted}
use Rattle.core_laws.specs.Shape.{kind_of, Shaped}
use Rattle.core_types.specs.Types.{Ty, AnyType, Types, of_class, of_unit, locals_of}
use Rattle.core_types.specs.Belonging.{Belongs, AllBelong, Suits}
use Rattle.core_types.specs.Need.{need, Fits}
use Rattle.core_types.specs.Paths.{reads, true_on_top}
use Rattle.core_types.specs.Programs.{Returns, ProgramFits}

-- the types of the fields of such an object
abbrev pub fields_types : Types → ObjKind → List Ty
fields_types T (kind.Holder c) = (of_class T c).statics
fields_types T (kind.Made c) = (of_class T c).own
fields_types T kind.Plain = []

-- the values of all fields belong to their types
abbrev pub FieldsFit : Types → List Obj → Type 0
FieldsFit T os = (r : ℕ) (o : Obj) → slice_get os r ≡ Some o → AllBelong T os o.fields (fields_types T o.kind)

abbrev pub LocalFits : Types → List Obj → Option Value → Option Ty → Type 0
LocalFits T os None t = ⊥
LocalFits T os (Some v) None = ⊥
LocalFits T os (Some v) (Some t) = Belongs T os v t

-- each value is there: a reference names an object, and no holder
abbrev pub AllThere : Types → List Obj → List Value → Type 0
AllThere T os vs = Each (λ (v : Value). Belongs T os v AnyType) vs

abbrev pub GivesThere : Types → List Obj → Gives → Type 0
GivesThere T os Own = Unit {0}
GivesThere T os (Object r) = Belongs T os (value.Ref r) AnyType

-- the numbers of a call are in range
abbrev pub IsThere : Program → Types → List Obj → Call → Type 0
IsThere p T os c = (is_some (slice_get p.units c.unit) ≡ true) × AllThere T os c.locals × GivesThere T os c.gives

-- an object is the holder of a class of the program, made of one, or a fresh Object
abbrev pub KindThere : Program → ObjKind → Type 0
KindThere p (kind.Holder c) = is_some (slice_get p.classes c) ≡ true
KindThere p (kind.Made c) = is_some (slice_get p.classes c) ≡ true
KindThere p kind.Plain = Unit {0}

abbrev pub KindsThere : Program → List Obj → Type 0
KindsThere p os = (r : ℕ) (k : ObjKind) → kind_of (slice_get os r) ≡ Some k → KindThere p k

-- a call that can go on, its temporaries left aside
pub record IsGoing (p : Program) (T : Types) (os : List Obj) (known : Bool) (c : Call) : Type 0 where
  pub fits : Fits p T (of_unit T c.unit) c.rest []
  pub long : length c.locals ≡ length (locals_of (of_unit T c.unit))
  pub locals : (i : ℕ) → reads i c.rest false ≡ true
      → LocalFits T os (slice_get c.locals i) (slice_get (locals_of (of_unit T c.unit)) i)
  pub returns : Returns (of_unit T c.unit).result known c.rest

abbrev pub need_in : Program → Types → Call → List Ty
need_in p T c = need p T (of_unit T c.unit) c.rest []

abbrev pub result_in : Types → Call → Option Ty
result_in T c = (of_unit T c.unit).result

-- a call on top that can go on
abbrev pub TopFits : Program → Types → List Obj → Call → Type 0
TopFits p T os c = IsGoing p T os (true_on_top c.temps) c × AllBelong T os c.temps (need_in p T c)

-- the temporaries belong to the types once a value of the type is pushed
abbrev pub AwaitsType : Types → List Obj → Ty → List Value → List Ty → Type 0
AwaitsType T os t ts [] = ⊥
AwaitsType T os t ts (n ∷ ns) = Suits T t n × AllBelong T os ts ns

abbrev pub AwaitsResult : Types → List Obj → Option Ty → List Value → List Ty → Type 0
AwaitsResult T os None ts ns = AllBelong T os ts ns
AwaitsResult T os (Some t) ts ns = AwaitsType T os t ts ns

abbrev pub AwaitsValue : Types → List Obj → Value → List Value → List Ty → Type 0
AwaitsValue T os v ts [] = ⊥
AwaitsValue T os v ts (n ∷ ns) = Belongs T os v n × AllBelong T os ts ns

-- the temporaries belong to the types once the call above, which gives this, has pushed what it gives
abbrev pub Awaits : Types → List Obj → Gives → Option Ty → List Value → List Ty → Type 0
Awaits T os Own result ts ns = AwaitsResult T os result ts ns
Awaits T os (Object r) result ts ns = AwaitsValue T os (value.Ref r) ts ns

-- whether the temporary on top is true once the call above has pushed what it gives, as far as is known
abbrev pub known_beneath : Gives → Option Ty → List Value → Bool
known_beneath Own None ts = true_on_top ts
known_beneath Own (Some t) ts = false
known_beneath (Object r) result ts = false

-- the calls beneath one that gives this can go on
abbrev pub BeneathFit : Program → Types → List Obj → Gives → Option Ty → List Call → Type 0
BeneathFit p T os g result [] = Unit {0}
BeneathFit p T os g result (c ∷ cs) =
    IsGoing p T os (known_beneath g result c.temps) c × Awaits T os g result c.temps (need_in p T c)
    × BeneathFit p T os c.gives (result_in T c) cs

-- a call that is being left has a result, of its unit's type, exactly where its unit has one
abbrev pub ResultFits : Types → List Obj → Option Ty → Option Value → Type 0
ResultFits T os None None = Unit {0}
ResultFits T os None (Some v) = ⊥
ResultFits T os (Some t) None = ⊥
ResultFits T os (Some t) (Some v) = Belongs T os v t

-- the calls of a thread, the top first, in the mode
abbrev pub CallsFit : Program → Types → List Obj → Mode → List Call → Type 0
CallsFit p T os mode.Running [] = ⊥
CallsFit p T os mode.Running (c ∷ cs) = TopFits p T os c × BeneathFit p T os c.gives (result_in T c) cs
CallsFit p T os (mode.Leaving v) [] = ⊥
CallsFit p T os (mode.Leaving v) (c ∷ cs) =
    ResultFits T os (result_in T c) v × (c.temps ≡ []) × BeneathFit p T os c.gives (result_in T c) cs
CallsFit p T os mode.Ending [] = ⊥
CallsFit p T os mode.Ending (c ∷ cs) = (c.temps ≡ []) × Each (λ (d : Call). AllThere T os d.temps) cs
CallsFit p T os mode.Over [] = Unit {0}
CallsFit p T os mode.Over (c ∷ cs) = ⊥

abbrev pub ThreadFits : Program → Types → List Obj → Thread → Type 0
ThreadFits p T os thread = CallsFit p T os thread.mode thread.calls

-- the configuration is well typed by these types
pub record ConfigFits (p : Program) (T : Types) (c : Config) : Type 0 where
  pub program : ProgramFits p T
  pub shaped : Shaped p c
  pub kinds : KindsThere p c.objects
  pub fields : FieldsFit T c.objects
  pub there : EveryCall (λ (call : Call). IsThere p T c.objects call) c.threads
  pub threads : Each (λ (thread : Thread). ThreadFits p T c.objects thread) c.threads
  pub spined : EveryCall (λ (call : Call). Spined call.rest) c.threads
  pub counted : Counted c

-- WellTyped, of a configuration of the program
abbrev pub WellTypedConfig : Program → Config → Type 0
WellTypedConfig p c = (T : Types) × ConfigFits p T c
