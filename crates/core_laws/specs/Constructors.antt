-- Code that leaves `this` as it is, and calls that make objects.
use Rattle.std.specs.Prelude.{◌≡◌, ◌==◌, ◌↔◌, not, ℕ, Bool, true, false, Some, None}
use Rattle.core_model.specs.Code.{Code, Done, Do}
use Rattle.core_model.specs.Units.{unit_number}
use Rattle.core_model.specs.Step.{next_exit}
use Rattle.core_model.specs.declared.program.TheConstants.{NEW}
use Rattle.core_model.specs.declared.instr.Plain.{Plain}
use Rattle.core_model.specs.declared.instr.Plain.TheVariants as plain
use Rattle.core_model.specs.declared.program.Program.{Program}
use Rattle.core_model.specs.declared.config.Call.{Call}
use Rattle.core_model.specs.declared.config.Gives.{Gives}
use Rattle.core_model.specs.declared.config.Gives.TheVariants.{Own, Object}
use Rattle.core_model.specs.declared.config.Mode.{Mode}
use Rattle.core_model.specs.declared.config.Mode.TheVariants as mode

abbrev pub sets_this : Plain → Bool
sets_this (plain.Set i) = i == 0
sets_this _ = false

-- the next instruction leaves local 0, which `this` is, as it is
abbrev pub this_stays : Code → Bool
this_stays (Do n p k) = not (sets_this p)
this_stays _ = true

abbrev pub calls_new : Plain → Bool
calls_new (plain.Call m a) = m == NEW
calls_new (plain.CallStatic c m a) = m == NEW
calls_new _ = false

-- the next instruction calls no member of a constructor's name
abbrev pub new_uncalled : Code → Bool
new_uncalled (Do n p k) = not (calls_new p)
new_uncalled _ = true

-- the unit is one of a constructor
abbrev pub IsConstructor : Program → ℕ → Type 0
IsConstructor p u = (d : ℕ) × (a : ℕ) × (unit_number p d NEW a ≡ Some u)

-- no member of another name has the unit of a constructor
abbrev pub HasOwnConstructors : Program → Type 0
HasOwnConstructors p = (d m a u : ℕ) → unit_number p d m a ≡ Some u → IsConstructor p u → m ≡ NEW

abbrev pub IsObject : Gives → Type 0
IsObject Own = ⊥
IsObject (Object r) = Unit {0}

-- a call gives an object that was made, rather than what its code returns, exactly where its unit is a constructor's
abbrev pub MakesByUnit : Program → Call → Type 0
MakesByUnit p c = IsObject c.gives ↔ IsConstructor p c.unit

-- a call with this left of it is left by the next step, in the mode
abbrev pub IsLeft : Mode → Code → Type 0
IsLeft mode.Running k = k ≡ Done
IsLeft (mode.Leaving v) k = next_exit k ≡ None
IsLeft mode.Ending k = ⊥
IsLeft mode.Over k = ⊥
