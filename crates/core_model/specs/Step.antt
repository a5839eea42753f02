-- One step of a thread, and the run of a schedule (JLS 8, 17.1: any interleaving of such steps).
use Rattle.std.specs.Prelude.{ℕ, List, [], ◌∷◌, ◌++◌, Option, Some, None, slice_get, slice_set}
use Rattle.std.specs.Option.{option_to_list}
use Rattle.core_model.specs.Code.{Code, Done, Do, If, While, Enter, EnterClass, Exit}
use Rattle.core_model.specs.Frames.{with_temps, with_rest, after, goes_on, push}
use Rattle.core_model.specs.Straight.{get, set_from, drop_from, read, field_from, keep_from, put_from, put_static_from, operate_from, neg_from, not_from, return_from, return_value_from, branch_from, turn}
use Rattle.core_model.specs.Calling.{make_plain, make_from, call_from, call_static_from, start_from}
use Rattle.core_model.specs.Monitors.{enter_from, enter_class, exit_object}
use Rattle.core_model.specs.declared.instr.Plain.{Plain}
use Rattle.core_model.specs.declared.instr.Plain.TheVariants as plain
use Rattle.core_model.specs.declared.program.Program.{Program}
use Rattle.core_model.specs.declared.config.Call.{Call}
use Rattle.core_model.specs.declared.config.Config.{Config}
use Rattle.core_model.specs.declared.config.Thread.{Thread}
use Rattle.core_model.specs.declared.config.Gives.{Gives}
use Rattle.core_model.specs.declared.config.Gives.TheVariants.{Own, Object}
use Rattle.core_model.specs.declared.config.Mode.{Mode}
use Rattle.core_model.specs.declared.config.Mode.TheVariants as mode
use Rattle.core_model.specs.declared.frame.Frame.{Frame}
use Rattle.core_model.specs.declared.frame.After.{After}
use Rattle.core_model.specs.declared.object.Obj.{Obj}
use Rattle.core_model.specs.declared.value.Value.{Value}
use Rattle.core_model.specs.declared.value.Value.TheVariants as value

-- an instruction without code inside; the frame's rest is what comes after it
abbrev pub do_plain : Program → Frame → Plain → After
do_plain program f (plain.Const v) = push f v
do_plain program f (plain.Get i) = get f i
do_plain program f (plain.Set i) = set_from f i f.call.temps
do_plain program f plain.Drop = drop_from f f.call.temps
do_plain program f (plain.Field i) = field_from f i f.call.temps
do_plain program f (plain.FieldKeep i) = keep_from f i f.call.temps
do_plain program f (plain.PutField i) = put_from f i f.call.temps
do_plain program f (plain.Static c i) = read f c i
do_plain program f (plain.PutStatic c i) = put_static_from f c i f.call.temps
do_plain program f (plain.Make c n) = make_from program f c n f.call.temps
do_plain program f plain.MakePlain = make_plain f
do_plain program f (plain.Call m n) = call_from program f m n f.call.temps
do_plain program f (plain.CallStatic c m n) = call_static_from program f c m n f.call.temps
do_plain program f (plain.Op o) = operate_from f o f.call.temps
do_plain program f plain.Neg = neg_from f f.call.temps
do_plain program f plain.Not = not_from f f.call.temps
do_plain program f plain.Start = start_from program f f.call.temps
do_plain program f plain.Return = return_from f
do_plain program f plain.ReturnValue = return_value_from f f.call.temps

-- what a call pushes when it is left: the object that it made, or its result
abbrev pub given : Gives → Option Value → Option Value
given Own result = result
given (Object r) result = Some (value.Ref r)

abbrev pub with_given : Call → Option Value → Call
with_given c None = c
with_given c (Some v) = record c { temps = v ∷ c.temps }

-- the call is left, and the caller goes on; without a caller the thread is over
abbrev pub resumed : List Obj → Option Value → List Call → After
resumed objects result [] = record { objects = objects; calls = []; mode = mode.Over; started = None }
resumed objects result (caller ∷ below) = record {
  objects = objects;
  calls = with_given caller result ∷ below;
  mode = mode.Running;
  started = None;
}

-- the call is left, and the next one ends; without one the thread is over
abbrev pub caller_ended : List Obj → List Call → After
caller_ended objects [] = record { objects = objects; calls = []; mode = mode.Over; started = None }
caller_ended objects (caller ∷ below) = record {
  objects = objects;
  calls = record caller { temps = [] } ∷ below;
  mode = mode.Ending;
  started = None;
}

-- a running thread, by what is left of its call
abbrev pub running_step : Program → ℕ → Frame → Code → After
running_step program t f Done = resumed f.objects (given f.call.gives None) f.below
running_step program t f (Do n p k) = do_plain program (with_rest f k) p
running_step program t f (If n a b k) = branch_from (with_rest f k) a b f.call.temps
running_step program t f (While n c b k) = turn (with_rest f k) n c b
running_step program t f (Enter n b k) = enter_from t (with_rest f k) n b f.call.temps
running_step program t f (EnterClass n c b k) = enter_class t (with_rest f k) n c b
running_step program t f (Exit n r k) = goes_on (exit_object (with_rest f k) r)

-- the first mark of a monitor that is left, and what comes after it
abbrev pub next_exit : Code → Option (ℕ × Code)
next_exit Done = None
next_exit (Do n p k) = next_exit k
next_exit (If n a b k) = next_exit k
next_exit (While n c b k) = next_exit k
next_exit (Enter n b k) = next_exit k
next_exit (EnterClass n c b k) = next_exit k
next_exit (Exit n r k) = Some (r, k)

-- the call gives up its next monitor, or is left with the result
abbrev pub leaving_step : Frame → Option Value → Option (ℕ × Code) → After
leaving_step f result None = resumed f.objects (given f.call.gives result) f.below
leaving_step f result (Some (r, k)) = after (exit_object (with_rest (with_temps f []) k) r) (mode.Leaving result)

-- the call gives up its next monitor, or is left
abbrev pub ending_step : Frame → Option (ℕ × Code) → After
ending_step f None = caller_ended f.objects f.below
ending_step f (Some (r, k)) = after (exit_object (with_rest (with_temps f []) k) r) mode.Ending

-- a thread with a call on top, by its mode
abbrev pub call_step : Program → ℕ → Frame → Mode → After
call_step program t f mode.Running = running_step program t f f.call.rest
call_step program t f (mode.Leaving result) = leaving_step f result (next_exit f.call.rest)
call_step program t f mode.Ending = ending_step f (next_exit f.call.rest)
call_step program t f mode.Over = after f mode.Over

-- a thread without calls stays as it is
abbrev pub thread_step : Program → ℕ → List Obj → Thread → List Call → After
thread_step program t objects thread [] = record { objects = objects; calls = []; mode = thread.mode; started = None }
thread_step program t objects thread (c ∷ below) =
    call_step program t (record { objects = objects; call = c; below = below }) thread.mode

-- the configuration with what the step of thread t left; what it started comes last
abbrev pub with_step : Config → ℕ → After → Config
with_step c t a = record {
  objects = a.objects;
  threads = slice_set c.threads t (record { calls = a.calls; mode = a.mode }) ++ option_to_list a.started;
}

abbrev pub step_of : Program → Config → ℕ → Option Thread → Config
step_of program c t None = c
step_of program c t (Some thread) = with_step c t (thread_step program t c.objects thread thread.calls)

-- Step: what the step of thread t makes of the configuration
abbrev pub step : Program → Config → ℕ → Config
step program c t = step_of program c t (slice_get c.threads t)

-- Run: the steps of a schedule, one after another
abbrev pub run : Program → Config → List ℕ → Config
run program c [] = c
run program c (t ∷ schedule) = run program (step program c t) schedule
