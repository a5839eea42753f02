-- What ends a thread, and where it is over (JLS 8, 15.11.1, 15.12.4.4, 15.17.2 and 14.19).
use Rattle.std.specs.Prelude.{ℕ, pos, ◌&&◌, Bool, true, false, List, [], ◌∷◌, Option, Some, None, slice_get}
use Rattle.std.specs.Ordering.{int_eq}
use Rattle.core_model.specs.Code.{Code, Done, Do, If, While, Enter, EnterClass, Exit}
use Rattle.core_model.specs.declared.instr.Op.{Op}
use Rattle.core_model.specs.declared.instr.Op.TheVariants as op
use Rattle.core_model.specs.declared.instr.Plain.{Plain}
use Rattle.core_model.specs.declared.instr.Plain.TheVariants as plain
use Rattle.core_model.specs.declared.config.Call.{Call}
use Rattle.core_model.specs.declared.config.Mode.{Mode}
use Rattle.core_model.specs.declared.config.Mode.TheVariants as mode
use Rattle.core_model.specs.declared.config.Thread.{Thread}
use Rattle.core_model.specs.declared.value.Value.{Value}
use Rattle.core_model.specs.declared.value.Value.TheVariants as value
use Rattle.core_types.specs.Belonging.{is_null}
use Rattle.core_types.specs.Paths.{is_done}

abbrev pub null_in : Option Value → Bool
null_in None = false
null_in (Some v) = is_null v

-- null is beneath n temporaries
abbrev pub null_under : ℕ → List Value → Bool
null_under n ts = null_in (slice_get ts n)

abbrev pub is_zero : Value → Bool
is_zero (value.Int x) = int_eq x (pos 0)
is_zero _ = false

abbrev pub zero_on_top : List Value → Bool
zero_on_top [] = false
zero_on_top (v ∷ ts) = is_zero v

abbrev pub divides : Op → Bool
divides op.Divide = true
divides op.Remainder = true
divides _ = false

abbrev pub faults_by : Plain → List Value → Bool
faults_by (plain.Field i) ts = null_under 0 ts
faults_by (plain.FieldKeep i) ts = null_under 0 ts
faults_by (plain.PutField i) ts = null_under 1 ts
faults_by (plain.Call m n) ts = null_under n ts
faults_by (plain.Op o) ts = divides o && zero_on_top ts
faults_by _ ts = false

-- the next instruction has a null base, a null receiver, null to enter or a divisor of zero
abbrev pub faults : Code → List Value → Bool
faults Done ts = false
faults (Do n i k) ts = faults_by i ts
faults (If n a b k) ts = false
faults (While n c b k) ts = false
faults (Enter n b k) ts = null_under 0 ts
faults (EnterClass n c b k) ts = false
faults (Exit n r k) ts = false

abbrev pub is_ending : Mode → Bool
is_ending mode.Running = false
is_ending (mode.Leaving v) = false
is_ending mode.Ending = true
is_ending mode.Over = false

abbrev pub is_ending_thread : Option Thread → Bool
is_ending_thread None = false
is_ending_thread (Some t) = is_ending t.mode

abbrev pub is_over : Mode → Bool
is_over mode.Running = false
is_over (mode.Leaving v) = false
is_over mode.Ending = false
is_over mode.Over = true

abbrev pub is_over_thread : Option Thread → Bool
is_over_thread None = false
is_over_thread (Some t) = is_over t.mode

-- no mark of a monitor is left
abbrev pub is_clear : Code → Bool
is_clear Done = true
is_clear (Do n i k) = is_clear k
is_clear (If n a b k) = is_clear k
is_clear (While n c b k) = is_clear k
is_clear (Enter n b k) = is_clear k
is_clear (EnterClass n c b k) = is_clear k
is_clear (Exit n r k) = false

-- the step of a thread leaves its top call: nothing is left of the code, or, once the call is being left, no monitor
abbrev pub leaves_call : Mode → Code → Bool
leaves_call mode.Running k = is_done k
leaves_call (mode.Leaving v) k = is_clear k
leaves_call mode.Ending k = is_clear k
leaves_call mode.Over k = false

-- and there is no call beneath it
abbrev pub leaves_last : Mode → Code → List Call → Bool
leaves_last m k [] = leaves_call m k
leaves_last m k (c ∷ cs) = false
