-- Which mode a step leaves its thread in.
use Rattle.std.proofs.Common.{◌≡◌, ℕ, ◌+◌, Bool, true, false, if◌then◌else◌, List, [], ◌∷◌, Option, Some, None, length, nat_lt, nat_le, is_some, take, drop, reverse, slice_get, slice_set, refl, sym, ap, ◌∙◌, subst}
use Rattle.std.specs.Option.{option_to_list}
use Rattle.core_model.specs.Code.{Code, Done, Do, If, While, Enter, EnterClass, Exit}
use Rattle.core_model.specs.Frames.{with_objects, with_temps, with_rest, goes_on, ends}
use Rattle.core_model.specs.Straight.{with_local, set_from, write, put_from, put_static_from, return_value_from, branch_from}
use Rattle.core_model.specs.Calling.{begins, construct, make_of, make_from, receiver, call_in, call_at, call_on, call_from, call_static_from, start_with, start_in, start_from}
use Rattle.core_model.specs.Monitors.{take_monitor, enter_from, enter_class}
use Rattle.core_model.specs.Objects.{field_at, with_field, changed, class_of, made, blocks}
use Rattle.core_model.specs.Units.{unit_number, call_of}
use Rattle.core_model.specs.Step.{do_plain, given, resumed, caller_ended, running_step, next_exit, leaving_step, ending_step, call_step, thread_step, step_of, step}
use Rattle.core_model.specs.declared.program.TheConstants.{NEW, RUN}
use Rattle.core_model.specs.declared.instr.Note.{Note}
use Rattle.core_model.specs.declared.instr.Plain.{Plain}
use Rattle.core_model.specs.declared.instr.Plain.TheVariants as plain
use Rattle.core_model.specs.declared.program.Program.{Program}
use Rattle.core_model.specs.declared.program.ClassInfo.{ClassInfo}
use Rattle.core_model.specs.declared.object.Obj.{Obj}
use Rattle.core_model.specs.declared.config.Call.{Call}
use Rattle.core_model.specs.declared.config.Config.{Config}
use Rattle.core_model.specs.declared.config.Gives.TheVariants.{Own, Object}
use Rattle.core_model.specs.declared.config.Mode.{Mode}
use Rattle.core_model.specs.declared.config.Mode.TheVariants as mode
use Rattle.core_model.specs.declared.config.Thread.{Thread}
use Rattle.core_model.specs.declared.frame.Frame.{Frame}
use Rattle.core_model.specs.declared.frame.After.{After}
use Rattle.core_model.specs.declared.value.Value.{Value}
use Rattle.core_model.specs.declared.value.Value.TheVariants as value
use Rattle.core_laws.proofs.Lists.{each-get}
use Rattle.core_laws.proofs.Owners.{get-set}
use Rattle.core_laws.proofs.Others.{get-front}
use Rattle.core_laws.proofs.Temps.{temps_after, by_temps, temporary-is}
use Rattle.core_types.specs.Types.{Types}
use Rattle.core_laws.specs.Places.{Each}
use Rattle.core_types.specs.Configs.{IsThere, CallsFit, ThreadFits, ConfigFits}
use Rattle.core_types.specs.Faults.{faults, is_ending_thread, is_over, is_over_thread, is_clear, leaves_last}
use Rattle.core_types.proofs.Steps.{running-found, leaving-found, thread_step-kept}

abbrev after_of : After → Thread
after_of a = record { calls = a.calls; mode = a.mode }

-- the thread that stepped has what the step leaves
thread-after : (p : Program) (c : Config) (t : ℕ) (h : Thread) → slice_get c.threads t ≡ Some h
    → slice_get (step p c t).threads t ≡ Some (after_of (thread_step p t c.objects h h.calls))
thread-after p c t h e =
    let a : After = thread_step p t c.objects h h.calls in
    let there : slice_get (step_of p c t (Some h)).threads t ≡ Some (after_of a) =
    get-front (slice_set c.threads t (after_of a)) (option_to_list a.started) t (after_of a) (get-set c.threads t h (after_of a) e) in
    subst (λ o. slice_get (step_of p c t o).threads t ≡ Some (after_of a)) (sym e) there

found-thread : (p : Program) (T : Types) (c : Config) (t : ℕ) (h : Thread) → ConfigFits p T c → slice_get c.threads t ≡ Some h → ThreadFits p T c.objects h
found-thread p T c t h w e = each-get (λ (x : Thread). ThreadFits p T c.objects x) c.threads t h e w.threads

found-there : (p : Program) (T : Types) (c : Config) (t : ℕ) (h : Thread) → ConfigFits p T c → slice_get c.threads t ≡ Some h → Each (IsThere p T c.objects) h.calls
found-there p T c t h w e = each-get (λ (x : Thread). Each (IsThere p T c.objects) x.calls) c.threads t h e w.there

pub ends-by-fault : (p : Program) (T : Types) (c : Config) (t : ℕ) (call : Call) (below : List Call) → ConfigFits p T c
    → slice_get c.threads t ≡ Some (record { calls = call ∷ below; mode = mode.Running })
    → is_ending_thread (slice_get (step p c t).threads t) ≡ faults call.rest call.temps
ends-by-fault p T c t call below w e =
    ap is_ending_thread (thread-after p c t _ e)
    ∙ (running-found p T w.program t (record { objects = c.objects; call = call; below = below }) w.fields w.shaped.holders (found-there p T c t _ w e) (found-thread p T c t _ w e)).ending

pub never-ends : (p : Program) (T : Types) (c : Config) (t : ℕ) (call : Call) (below : List Call) (v : Option Value) → ConfigFits p T c
    → slice_get c.threads t ≡ Some (record { calls = call ∷ below; mode = mode.Leaving v })
    → is_ending_thread (slice_get (step p c t).threads t) ≡ false
never-ends p T c t call below v w e =
    ap is_ending_thread (thread-after p c t _ e)
    ∙ (leaving-found p T w.program (record { objects = c.objects; call = call; below = below }) v w.fields (found-there p T c t _ w e) (found-thread p T c t _ w e)).ending

-- ---- threads that are over

abbrev has_calls : List Call → Bool
has_calls [] = false
has_calls (c ∷ cs) = true

abbrev HasCalls : After → Type 0
HasCalls a = has_calls a.calls ≡ true

if-has : (b : Bool) (x y : After) → HasCalls x → HasCalls y → HasCalls (if b then x else y)
if-has true x y h l = h
if-has false x y h l = l

by-has : (f : Frame) (o : Option (List Value)) → HasCalls (by_temps f o)
by-has f None = refl
by-has f (Some ts) = refl

begins-has : (f : Frame) (o : Option Call) → HasCalls (begins f o)
begins-has f None = refl
begins-has f (Some c) = refl

starts-has : (f : Frame) (o : Option Call) → HasCalls (start_with f o)
starts-has f None = refl
starts-has f (Some c) = refl

set-has : (f : Frame) (i : ℕ) (ts : List Value) → HasCalls (set_from f i ts)
set-has f i [] = refl
set-has f i (v ∷ ts) = if-has (nat_lt i (length f.call.locals)) (goes_on (with_local (with_temps f ts) i v)) (ends f) refl refl

write-has : (f : Frame) (r i : ℕ) (v : Value) → HasCalls (write f r i v)
write-has f r i v =
    if-has (is_some (field_at f.objects r i)) (goes_on (with_objects f (changed f.objects r (λ o. with_field o i v)))) (ends f) refl refl

put-has : (f : Frame) (i : ℕ) (ts : List Value) → HasCalls (put_from f i ts)
put-has f i [] = refl
put-has f i (v ∷ []) = refl
put-has f i (v ∷ value.Int x ∷ ts) = refl
put-has f i (v ∷ value.Bool x ∷ ts) = refl
put-has f i (v ∷ value.Str x ∷ ts) = refl
put-has f i (v ∷ value.Null ∷ ts) = refl
put-has f i (v ∷ value.Ref r ∷ ts) = write-has (with_temps f ts) r i v

put_static-has : (f : Frame) (c i : ℕ) (ts : List Value) → HasCalls (put_static_from f c i ts)
put_static-has f c i [] = refl
put_static-has f c i (v ∷ ts) = write-has (with_temps f ts) c i v

construct-has : (p : Program) (f : Frame) (r : ℕ) (args : List Value) (o : Option ℕ) → HasCalls (construct p f r args o)
construct-has p f r args None = refl
construct-has p f r args (Some u) = begins-has f (call_of p (Some u) (value.Ref r ∷ args) (Object r))

make_of-has : (p : Program) (f : Frame) (c n : ℕ) (args : List Value) (o : Option ClassInfo) → HasCalls (make_of p f c n args o)
make_of-has p f c n args None = refl
make_of-has p f c n args (Some info) =
    construct-has p (with_objects f (made f.objects c info.fields)) (length f.objects) args (unit_number p c NEW n)

make-has : (p : Program) (f : Frame) (c n : ℕ) (ts : List Value) → HasCalls (make_from p f c n ts)
make-has p f c n ts =
    if-has (nat_le n (length ts)) (make_of p (with_temps f (drop n ts)) c n (reverse (take n ts)) (slice_get p.classes c)) (ends f)
    (make_of-has p (with_temps f (drop n ts)) c n (reverse (take n ts)) (slice_get p.classes c)) refl

call_in-has : (p : Program) (f : Frame) (m n : ℕ) (args : List Value) (o : Option ℕ) → HasCalls (call_in p f m n args o)
call_in-has p f m n args None = refl
call_in-has p f m n args (Some c) = begins-has f (call_of p (unit_number p c m n) args Own)

call_at-has : (p : Program) (f : Frame) (m n : ℕ) (args : List Value) (o : Option ℕ) → HasCalls (call_at p f m n args o)
call_at-has p f m n args None = refl
call_at-has p f m n args (Some r) = call_in-has p f m n args (class_of (slice_get f.objects r))

call-has : (p : Program) (f : Frame) (m n : ℕ) (ts : List Value) → HasCalls (call_from p f m n ts)
call-has p f m n ts =
    if-has (nat_lt n (length ts)) (call_on p (with_temps f (drop (n + 1) ts)) m n (reverse (take (n + 1) ts))) (ends f)
    (call_at-has p (with_temps f (drop (n + 1) ts)) m n (reverse (take (n + 1) ts)) (receiver (reverse (take (n + 1) ts)))) refl

call_static-has : (p : Program) (f : Frame) (c m n : ℕ) (ts : List Value) → HasCalls (call_static_from p f c m n ts)
call_static-has p f c m n ts =
    if-has (nat_le n (length ts)) (begins (with_temps f (drop n ts)) (call_of p (unit_number p c m n) (reverse (take n ts)) Own)) (ends f)
    (begins-has (with_temps f (drop n ts)) (call_of p (unit_number p c m n) (reverse (take n ts)) Own)) refl

start_in-has : (p : Program) (f : Frame) (v : Value) (o : Option ℕ) → HasCalls (start_in p f v o)
start_in-has p f v None = refl
start_in-has p f v (Some c) = starts-has f (call_of p (unit_number p c RUN 0) (v ∷ []) Own)

start-has : (p : Program) (f : Frame) (ts : List Value) → HasCalls (start_from p f ts)
start-has p f [] = refl
start-has p f (value.Int x ∷ ts) = refl
start-has p f (value.Bool b ∷ ts) = refl
start-has p f (value.Str s ∷ ts) = refl
start-has p f (value.Null ∷ ts) = refl
start-has p f (value.Ref r ∷ ts) = start_in-has p (with_temps f ts) (value.Ref r) (class_of (slice_get f.objects r))

return_value-has : (f : Frame) (ts : List Value) → HasCalls (return_value_from f ts)
return_value-has f [] = refl
return_value-has f (v ∷ ts) = refl

do-has : (p : Program) (f : Frame) (i : Plain) → HasCalls (do_plain p f i)
do-has p f (plain.Set i) = set-has f i f.call.temps
do-has p f (plain.PutField i) = put-has f i f.call.temps
do-has p f (plain.PutStatic c i) = put_static-has f c i f.call.temps
do-has p f (plain.Make c n) = make-has p f c n f.call.temps
do-has p f plain.MakePlain = refl
do-has p f (plain.Call m n) = call-has p f m n f.call.temps
do-has p f (plain.CallStatic c m n) = call_static-has p f c m n f.call.temps
do-has p f plain.Start = start-has p f f.call.temps
do-has p f plain.Return = refl
do-has p f plain.ReturnValue = return_value-has f f.call.temps
do-has p f i = subst HasCalls (sym (temporary-is p f i tt)) (by-has f (temps_after f.objects f.call.locals f.call.temps i))

branch-has : (f : Frame) (a b : Code) (ts : List Value) → HasCalls (branch_from f a b ts)
branch-has f a b [] = refl
branch-has f a b (value.Int n ∷ ts) = refl
branch-has f a b (value.Bool c ∷ ts) = refl
branch-has f a b (value.Str s ∷ ts) = refl
branch-has f a b (value.Null ∷ ts) = refl
branch-has f a b (value.Ref r ∷ ts) = refl

take-has : (t : ℕ) (f : Frame) (n : Note) (b : Code) (r : ℕ) (o : Option Obj) → HasCalls (take_monitor t f n b r o)
take-has t f n b r None = refl
take-has t f n b r (Some o) = refl

enter-has : (t : ℕ) (f : Frame) (n : Note) (b : Code) (ts : List Value) → HasCalls (enter_from t f n b ts)
enter-has t f n b [] = refl
enter-has t f n b (value.Int i ∷ ts) = refl
enter-has t f n b (value.Bool c ∷ ts) = refl
enter-has t f n b (value.Str s ∷ ts) = refl
enter-has t f n b (value.Null ∷ ts) = refl
enter-has t f n b (value.Ref r ∷ ts) =
    if-has (blocks t (slice_get f.objects r)) (goes_on (with_temps (with_rest f (Enter n b f.call.rest)) (value.Ref r ∷ ts)))
    (take_monitor t (with_temps f ts) n b r (slice_get f.objects r)) refl (take-has t (with_temps f ts) n b r (slice_get f.objects r))

class-has : (t : ℕ) (f : Frame) (n : Note) (c : ℕ) (b : Code) → HasCalls (enter_class t f n c b)
class-has t f n c b =
    if-has (blocks t (slice_get f.objects c)) (goes_on (with_rest f (EnterClass n c b f.call.rest)))
    (take_monitor t f n b c (slice_get f.objects c)) refl (take-has t f n b c (slice_get f.objects c))

-- a thread that has calls isn't over
not-over : (p : Program) (T : Types) (os : List Obj) (m : Mode) (cs : List Call) → has_calls cs ≡ true → CallsFit p T os m cs → is_over m ≡ false
not-over p T os mode.Running cs h g = refl
not-over p T os (mode.Leaving v) cs h g = refl
not-over p T os mode.Ending cs h g = refl
not-over p T os mode.Over [] h g = absurd (let no : ⊥ = cc in no)
not-over p T os mode.Over (c ∷ cs) h g = absurd g

-- nothing is left of a last call only at its end
never : (m : Mode) (k : Code) (cs : List Call) → leaves_last m k [] ≡ false → leaves_last m k cs ≡ false
never m k [] h = h
never m k (c ∷ cs) h = refl

left-over : (os : List Obj) (v : Option Value) (cs : List Call) → is_over (resumed os v cs).mode ≡ leaves_last mode.Running Done cs
left-over os v [] = refl
left-over os v (c ∷ cs) = refl

over-next : (p : Program) (T : Types) (t : ℕ) (f : Frame) (k : Code)
    → CallsFit p T (running_step p t f k).objects (running_step p t f k).mode (running_step p t f k).calls → is_over (running_step p t f k).mode ≡ leaves_last mode.Running k f.below
over-next p T t f Done g = left-over f.objects (given f.call.gives None) f.below
over-next p T t f (Do n i k) g =
    not-over p T _ _ (running_step p t f (Do n i k)).calls (do-has p (with_rest f k) i) g ∙ sym (never mode.Running (Do n i k) f.below refl)
over-next p T t f (If n a b k) g =
    not-over p T _ _ (running_step p t f (If n a b k)).calls (branch-has (with_rest f k) a b f.call.temps) g ∙ sym (never mode.Running (If n a b k) f.below refl)
over-next p T t f (While n c b k) g = sym (never mode.Running (While n c b k) f.below refl)
over-next p T t f (Enter n b k) g =
    not-over p T _ _ (running_step p t f (Enter n b k)).calls (enter-has t (with_rest f k) n b f.call.temps) g ∙ sym (never mode.Running (Enter n b k) f.below refl)
over-next p T t f (EnterClass n c b k) g =
    not-over p T _ _ (running_step p t f (EnterClass n c b k)).calls (class-has t (with_rest f k) n c b) g ∙ sym (never mode.Running (EnterClass n c b k) f.below refl)
over-next p T t f (Exit n r k) g = sym (never mode.Running (Exit n r k) f.below refl)

abbrev is_nothing : Option (ℕ × Code) → Bool
is_nothing None = true
is_nothing (Some x) = false

clear-exit : (k : Code) → is_clear k ≡ is_nothing (next_exit k)
clear-exit Done = refl
clear-exit (Do n i k) = clear-exit k
clear-exit (If n a b k) = clear-exit k
clear-exit (While n c b k) = clear-exit k
clear-exit (Enter n b k) = clear-exit k
clear-exit (EnterClass n c b k) = clear-exit k
clear-exit (Exit n r k) = refl

over-leave : (f : Frame) (v : Option Value) (o : Option (ℕ × Code)) (k : Code) → is_clear k ≡ is_nothing o
    → is_over (leaving_step f v o).mode ≡ leaves_last (mode.Leaving v) k f.below
over-leave f v None k e = left-clear f.objects (given f.call.gives v) f.below
  where
    left-clear : (os : List Obj) (w : Option Value) (cs : List Call) → is_over (resumed os w cs).mode ≡ leaves_last (mode.Leaving v) k cs
    left-clear os w [] = sym e
    left-clear os w (c ∷ cs) = refl
over-leave f v (Some (r, l)) k e = sym (never (mode.Leaving v) k f.below e)

over-unwind : (f : Frame) (o : Option (ℕ × Code)) (k : Code) → is_clear k ≡ is_nothing o
    → is_over (ending_step f o).mode ≡ leaves_last mode.Ending k f.below
over-unwind f None k e = dropped-clear f.objects f.below
  where
    dropped-clear : (os : List Obj) (cs : List Call) → is_over (caller_ended os cs).mode ≡ leaves_last mode.Ending k cs
    dropped-clear os [] = sym e
    dropped-clear os (c ∷ cs) = refl
over-unwind f (Some (r, l)) k e = sym (never mode.Ending k f.below e)

over-move : (p : Program) (T : Types) (t : ℕ) (f : Frame) (m : Mode) → CallsFit p T f.objects m (f.call ∷ f.below)
    → CallsFit p T (call_step p t f m).objects (call_step p t f m).mode (call_step p t f m).calls
    → is_over (call_step p t f m).mode ≡ leaves_last m f.call.rest f.below
over-move p T t f mode.Running h g = over-next p T t f f.call.rest g
over-move p T t f (mode.Leaving v) h g = over-leave f v (next_exit f.call.rest) f.call.rest (clear-exit f.call.rest)
over-move p T t f mode.Ending h g = over-unwind f (next_exit f.call.rest) f.call.rest (clear-exit f.call.rest)
over-move p T t f mode.Over h g = absurd h

pub over-by-leaving : (p : Program) (T : Types) (c : Config) (t : ℕ) (call : Call) (below : List Call) (m : Mode) → ConfigFits p T c
    → slice_get c.threads t ≡ Some (record { calls = call ∷ below; mode = m })
    → is_over_thread (slice_get (step p c t).threads t) ≡ leaves_last m call.rest below
over-by-leaving p T c t call below m w e =
    let calls = found-thread p T c t _ w e in
    let h : Thread = record { calls = call ∷ below; mode = m } in
    ap is_over_thread (thread-after p c t _ e)
    ∙ over-move p T t (record { objects = c.objects; call = call; below = below }) m calls
    (thread_step-kept p T w.program t c.objects h (call ∷ below) w.fields w.shaped.holders (found-there p T c t _ w e) calls).calls
