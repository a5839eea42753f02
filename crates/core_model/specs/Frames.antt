-- What a step finds of its thread, and what it leaves.
use Rattle.std.specs.Prelude.{List, [], ◌∷◌, Option, Some, None}
use Rattle.core_model.specs.Code.{Code}
use Rattle.core_model.specs.declared.config.Call.{Call}
use Rattle.core_model.specs.declared.config.Mode.{Mode}
use Rattle.core_model.specs.declared.config.Mode.TheVariants as mode
use Rattle.core_model.specs.declared.frame.Frame.{Frame}
use Rattle.core_model.specs.declared.frame.After.{After}
use Rattle.core_model.specs.declared.object.Obj.{Obj}
use Rattle.core_model.specs.declared.value.Value.{Value}

abbrev pub with_call : Frame → Call → Frame
with_call f c = record f { call = c }

abbrev pub with_objects : Frame → List Obj → Frame
with_objects f os = record f { objects = os }

abbrev pub with_temps : Frame → List Value → Frame
with_temps f ts = with_call f (record f.call { temps = ts })

abbrev pub with_rest : Frame → Code → Frame
with_rest f k = with_call f (record f.call { rest = k })

-- the thread with the call on top, in the mode
abbrev pub after : Frame → Mode → After
after f m = record { objects = f.objects; calls = f.call ∷ f.below; mode = m; started = None }

-- the call goes on
abbrev pub goes_on : Frame → After
goes_on f = after f mode.Running

-- the thread ends, and the call has no temporaries
abbrev pub ends : Frame → After
ends f = after (with_temps f []) mode.Ending

-- the call goes on with one more temporary
abbrev pub push : Frame → Value → After
push f v = goes_on (with_temps f (v ∷ f.call.temps))

-- the same where there is a value; else the thread ends
abbrev pub push_if : Frame → Option Value → After
push_if f None = ends f
push_if f (Some v) = push f v
