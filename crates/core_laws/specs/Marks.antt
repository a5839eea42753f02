-- The marks of monitors that are left in a thread's calls, and who owns which monitor.
use Rattle.std.specs.Prelude.{◌≡◌, ℕ, ◌+◌, ◌<◌, ◌==◌, List, [], ◌∷◌, Option, Some, None, if◌then◌else◌, slice_get}
use Rattle.core_model.specs.Code.{Code, Done, Do, If, While, Enter, EnterClass, Exit}
use Rattle.core_model.specs.declared.program.Program.{Program}
use Rattle.core_model.specs.declared.program.UnitCode.{UnitCode}
use Rattle.core_model.specs.declared.config.Call.{Call}
use Rattle.core_model.specs.declared.config.Config.{Config}
use Rattle.core_model.specs.declared.config.Thread.{Thread}
use Rattle.core_model.specs.declared.object.Obj.{Obj}

-- no mark stands in the code, nor inside any instruction of it
abbrev pub Unmarked : Code → Type 0
Unmarked Done = Unit {0}
Unmarked (Do n p k) = Unmarked k
Unmarked (If n a b k) = Unmarked a × Unmarked b × Unmarked k
Unmarked (While n c b k) = Unmarked c × Unmarked b × Unmarked k
Unmarked (Enter n b k) = Unmarked b × Unmarked k
Unmarked (EnterClass n c b k) = Unmarked b × Unmarked k
Unmarked (Exit n r k) = ⊥

-- marks stand in the code itself, never inside an instruction
abbrev pub Spined : Code → Type 0
Spined Done = Unit {0}
Spined (Do n p k) = Spined k
Spined (If n a b k) = Unmarked a × Unmarked b × Spined k
Spined (While n c b k) = Unmarked c × Unmarked b × Spined k
Spined (Enter n b k) = Unmarked b × Spined k
Spined (EnterClass n c b k) = Unmarked b × Spined k
Spined (Exit n r k) = Spined k

-- no code of the program has a mark
abbrev pub HasNoMarks : Program → Type 0
HasNoMarks p = (u : ℕ) (code : UnitCode) → slice_get p.units u ≡ Some code → Unmarked code.code

-- how many marks of the object are left in the code itself, those inside other instructions left aside
abbrev pub marks_in : ℕ → Code → ℕ
marks_in r Done = 0
marks_in r (Do n p k) = marks_in r k
marks_in r (If n a b k) = marks_in r k
marks_in r (While n c b k) = marks_in r k
marks_in r (Enter n b k) = marks_in r k
marks_in r (EnterClass n c b k) = marks_in r k
marks_in r (Exit n o k) = (if o == r then 1 else 0) + marks_in r k

abbrev pub marks_in_calls : ℕ → List Call → ℕ
marks_in_calls r [] = 0
marks_in_calls r (c ∷ cs) = marks_in r c.rest + marks_in_calls r cs

-- how many marks of the object are left in the thread's calls; none where there is no such thread
abbrev pub marks_by : ℕ → Option Thread → ℕ
marks_by r None = 0
marks_by r (Some t) = marks_in_calls r t.calls

abbrev pub entries_if : ℕ → Option ℕ → ℕ → ℕ
entries_if t None n = 0
entries_if t (Some s) n = if s == t then n else 0

-- how many times thread t has entered the object's monitor; none where it doesn't own it
abbrev pub entries_of : ℕ → Option Obj → ℕ
entries_of t None = 0
entries_of t (Some o) = entries_if t o.owner o.count

abbrev pub owner_of : Option Obj → Option ℕ
owner_of None = None
owner_of (Some o) = o.owner

-- the owner of the object's monitor
abbrev pub owner_at : Config → ℕ → Option ℕ
owner_at c r = owner_of (slice_get c.objects r)

-- a free monitor has count 0, one with an owner has been entered
abbrev pub IsSettled : Option ℕ → ℕ → Type 0
IsSettled None n = n ≡ 0
IsSettled (Some t) n = 0 < n

abbrev pub AllSettled : List Obj → Type 0
AllSettled os = (r : ℕ) (o : Obj) → slice_get os r ≡ Some o → IsSettled o.owner o.count

-- owner and count of each monitor are exactly the marks left in the owner's calls
pub record Counted (c : Config) : Type 0 where
  pub exact : (t r : ℕ) → marks_by r (slice_get c.threads t) ≡ entries_of t (slice_get c.objects r)
  pub settled : AllSettled c.objects
