-- The instructions that make objects, begin calls and start threads.
use Rattle.std.specs.Prelude.{ℕ, ◌+◌, nat_le, nat_lt, List, [], ◌∷◌, ◌++◌, Option, Some, None, if◌then◌else◌, length, slice_get, take, drop, reverse}
use Rattle.core_model.specs.Frames.{with_objects, with_temps, goes_on, ends, push}
use Rattle.core_model.specs.Objects.{class_of, made, fresh_object}
use Rattle.core_model.specs.Units.{unit_number, call_of}
use Rattle.core_model.specs.declared.program.TheConstants.{NEW, RUN}
use Rattle.core_model.specs.declared.program.Program.{Program}
use Rattle.core_model.specs.declared.program.ClassInfo.{ClassInfo}
use Rattle.core_model.specs.declared.config.Call.{Call}
use Rattle.core_model.specs.declared.config.Thread.{Thread}
use Rattle.core_model.specs.declared.config.Gives.TheVariants.{Own, Object}
use Rattle.core_model.specs.declared.config.Mode.TheVariants as mode
use Rattle.core_model.specs.declared.frame.Frame.{Frame}
use Rattle.core_model.specs.declared.frame.After.{After}
use Rattle.core_model.specs.declared.value.Value.{Value}
use Rattle.core_model.specs.declared.value.Value.TheVariants as value

-- the new call is on top; without one the thread ends
abbrev pub begins : Frame → Option Call → After
begins f None = ends f
begins f (Some c) = record { objects = f.objects; calls = c ∷ f.call ∷ f.below; mode = mode.Running; started = None }

-- MakePlain
abbrev pub make_plain : Frame → After
make_plain f = push (with_objects f (f.objects ++ fresh_object ∷ [])) (value.Ref (length f.objects))

-- the constructor is called for the new object r, or r is pushed at once
abbrev pub construct : Program → Frame → ℕ → List Value → Option ℕ → After
construct program f r args None = push f (value.Ref r)
construct program f r args (Some u) = begins f (call_of program (Some u) (value.Ref r ∷ args) (Object r))

abbrev pub make_of : Program → Frame → ℕ → ℕ → List Value → Option ClassInfo → After
make_of program f c n args None = ends f
make_of program f c n args (Some info) =
    construct program (with_objects f (made f.objects c info.fields)) (length f.objects) args (unit_number program c NEW n)

-- Make(c, n): the arguments are on top, the last one first
abbrev pub make_from : Program → Frame → ℕ → ℕ → List Value → After
make_from program f c n ts =
    if nat_le n (length ts)
    then make_of program (with_temps f (drop n ts)) c n (reverse (take n ts)) (slice_get program.classes c)
    else ends f

-- the unit of the receiver's class
abbrev pub call_in : Program → Frame → ℕ → ℕ → List Value → Option ℕ → After
call_in program f m n args None = ends f
call_in program f m n args (Some c) = begins f (call_of program (unit_number program c m n) args Own)

-- the object that comes first
abbrev pub receiver : List Value → Option ℕ
receiver (value.Ref r ∷ args) = Some r
receiver _ = None

abbrev pub call_at : Program → Frame → ℕ → ℕ → List Value → Option ℕ → After
call_at program f m n args None = ends f
call_at program f m n args (Some r) = call_in program f m n args (class_of (slice_get f.objects r))

abbrev pub call_on : Program → Frame → ℕ → ℕ → List Value → After
call_on program f m n args = call_at program f m n args (receiver args)

-- Call(m, n): beneath the arguments is the receiver
abbrev pub call_from : Program → Frame → ℕ → ℕ → List Value → After
call_from program f m n ts =
    if nat_lt n (length ts)
    then call_on program (with_temps f (drop (n + 1) ts)) m n (reverse (take (n + 1) ts))
    else ends f

-- CallStatic(c, m, n)
abbrev pub call_static_from : Program → Frame → ℕ → ℕ → ℕ → List Value → After
call_static_from program f c m n ts =
    if nat_le n (length ts)
    then begins (with_temps f (drop n ts)) (call_of program (unit_number program c m n) (reverse (take n ts)) Own)
    else ends f

-- a thread whose only call this is
abbrev pub thread_of : Call → Thread
thread_of c = record { calls = c ∷ []; mode = mode.Running }

abbrev pub start_with : Frame → Option Call → After
start_with f None = ends f
start_with f (Some c) = record { objects = f.objects; calls = f.call ∷ f.below; mode = mode.Running; started = Some (thread_of c) }

abbrev pub start_in : Program → Frame → Value → Option ℕ → After
start_in program f v None = ends f
start_in program f v (Some c) = start_with f (call_of program (unit_number program c RUN 0) (v ∷ []) Own)

-- Start
abbrev pub start_from : Program → Frame → List Value → After
start_from program f (value.Null ∷ ts) = goes_on (with_temps f ts)
start_from program f (value.Ref r ∷ ts) = start_in program (with_temps f ts) (value.Ref r) (class_of (slice_get f.objects r))
start_from program f _ = ends f
