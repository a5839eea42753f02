-- Entering and giving up monitors (JLS 8, 14.19 and 17.1).
use Rattle.std.specs.Prelude.{ℕ, List, ◌∷◌, Option, Some, None, if◌then◌else◌, slice_get}
use Rattle.core_model.specs.Code.{Code, Enter, EnterClass, Exit, ◌⧺◌}
use Rattle.core_model.specs.Frames.{with_objects, with_temps, with_rest, goes_on, ends}
use Rattle.core_model.specs.Objects.{blocks, changed, entered, exited}
use Rattle.core_model.specs.declared.instr.Note.{Note}
use Rattle.core_model.specs.declared.frame.Frame.{Frame}
use Rattle.core_model.specs.declared.frame.After.{After}
use Rattle.core_model.specs.declared.object.Obj.{Obj}
use Rattle.core_model.specs.declared.value.Value.{Value}
use Rattle.core_model.specs.declared.value.Value.TheVariants as value

-- the monitor is counted up; the block goes on, and then gives it up
abbrev pub take_monitor : ℕ → Frame → Note → Code → ℕ → Option Obj → After
take_monitor t f n b r None = ends f
take_monitor t f n b r (Some o) =
    goes_on (with_rest (with_objects f (changed f.objects r (entered t))) (b ⧺ Exit n r f.call.rest))

-- Enter(b): a thread that is blocked stays before it
abbrev pub enter_from : ℕ → Frame → Note → Code → List Value → After
enter_from t f n b (value.Ref r ∷ ts) =
    if blocks t (slice_get f.objects r)
    then goes_on (with_temps (with_rest f (Enter n b f.call.rest)) (value.Ref r ∷ ts))
    else take_monitor t (with_temps f ts) n b r (slice_get f.objects r)
enter_from t f n b _ = ends f

-- EnterClass(c, b)
abbrev pub enter_class : ℕ → Frame → Note → ℕ → Code → After
enter_class t f n c b =
    if blocks t (slice_get f.objects c)
    then goes_on (with_rest f (EnterClass n c b f.call.rest))
    else take_monitor t f n b c (slice_get f.objects c)

-- Exit(r)
abbrev pub exit_object : Frame → ℕ → Frame
exit_object f r = with_objects f (changed f.objects r exited)
