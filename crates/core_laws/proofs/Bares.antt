-- A step doesn't look at notes: without them it is the same step.
use Rattle.std.proofs.Common.{◌≡◌, ℕ, zero, suc, ◌+◌, Bool, true, false, List, [], ◌∷◌, ◌++◌, Option, Some, None, if◌then◌else◌, map, length, slice_get, slice_set, nat_lt, nat_le, is_some, take, drop, reverse, refl, sym, ap, ◌∙◌}
use Rattle.std.specs.Option.{option_map, option_to_list}
use Rattle.core_model.specs.Code.{Code, Done, Do, If, While, Enter, EnterClass, Exit, ◌⧺◌}
use Rattle.core_model.specs.Frames.{with_objects, with_temps, with_rest, goes_on, ends, push_if}
use Rattle.core_model.specs.Straight.{set_from, with_local, drop_from, read, field_from, keep_from, write, put_on, put_from, put_static_from, operate_from, neg_from, not_from, return_value_from, branch_from, turn}
use Rattle.core_model.specs.Calling.{begins, construct, make_of, make_from, receiver, call_in, call_at, call_on, call_from, call_static_from, start_with, start_in, start_from}
use Rattle.core_model.specs.Monitors.{take_monitor, enter_from, enter_class}
use Rattle.core_model.specs.Objects.{entered, field_at, with_field, changed, class_of, made, blocks}
use Rattle.core_model.specs.Operators.{operated}
use Rattle.core_model.specs.Units.{unit_number, call_for, call_of}
use Rattle.core_model.specs.Begin.{begun_objects, begin, begun_thread, main_thread}
use Rattle.core_model.specs.Step.{do_plain, given, with_given, resumed, caller_ended, running_step, next_exit, leaving_step, ending_step, call_step, thread_step, with_step, step_of, step, run}
use Rattle.core_model.specs.declared.instr.Note.{Note}
use Rattle.core_model.specs.declared.instr.Op.{Op}
use Rattle.core_model.specs.declared.instr.Plain.{Plain}
use Rattle.core_model.specs.declared.instr.Plain.TheVariants as plain
use Rattle.core_model.specs.declared.program.TheConstants.{NEW, MAIN, RUN}
use Rattle.core_model.specs.declared.program.Program.{Program}
use Rattle.core_model.specs.declared.program.ClassInfo.{ClassInfo}
use Rattle.core_model.specs.declared.program.UnitCode.{UnitCode}
use Rattle.core_model.specs.declared.config.Call.{Call}
use Rattle.core_model.specs.declared.config.Config.{Config}
use Rattle.core_model.specs.declared.config.Thread.{Thread}
use Rattle.core_model.specs.declared.config.Gives.{Gives}
use Rattle.core_model.specs.declared.config.Mode.{Mode}
use Rattle.core_model.specs.declared.config.Mode.TheVariants as mode
use Rattle.core_model.specs.declared.frame.Frame.{Frame}
use Rattle.core_model.specs.declared.frame.After.{After}
use Rattle.core_model.specs.declared.object.Obj.{Obj}
use Rattle.core_model.specs.declared.value.Value.{Value}
use Rattle.core_model.specs.declared.value.Value.TheVariants as value
use Rattle.core_laws.specs.Bare.{blank, bare, bare_unit, bare_program, bare_call, bare_thread, bare_config}

-- ---- lists

get-map : {A B : Type 0} (f : A → B) (xs : List A) (i : ℕ) → slice_get (map f xs) i ≡ option_map f (slice_get xs i)
get-map f [] i = refl
get-map f (x ∷ xs) zero = refl
get-map f (x ∷ xs) (suc i) = get-map f xs i

map-set : {A B : Type 0} (f : A → B) (xs : List A) (i : ℕ) (x : A) → map f (slice_set xs i x) ≡ slice_set (map f xs) i (f x)
map-set f [] i x = refl
map-set f (y ∷ xs) zero x = refl
map-set f (y ∷ xs) (suc i) x = ap (λ ys. f y ∷ ys) (map-set f xs i x)

map-join : {A B : Type 0} (f : A → B) (xs ys : List A) → map f (xs ++ ys) ≡ map f xs ++ map f ys
map-join f [] ys = refl
map-join f (x ∷ xs) ys = ap (λ zs. f x ∷ zs) (map-join f xs ys)

map-option : {A B : Type 0} (f : A → B) (o : Option A) → map f (option_to_list o) ≡ option_to_list (option_map f o)
map-option f None = refl
map-option f (Some x) = refl

-- ---- code

bare-append : (a k : Code) → bare (a ⧺ k) ≡ bare a ⧺ bare k
bare-append Done k = refl
bare-append (Do n p s) k = ap (Do blank p) (bare-append s k)
bare-append (If n a b s) k = ap (If blank (bare a) (bare b)) (bare-append s k)
bare-append (While n c b s) k = ap (While blank (bare c) (bare b)) (bare-append s k)
bare-append (Enter n b s) k = ap (Enter blank (bare b)) (bare-append s k)
bare-append (EnterClass n c b s) k = ap (EnterClass blank c (bare b)) (bare-append s k)
bare-append (Exit n r s) k = ap (Exit blank r) (bare-append s k)

abbrev bare_exit : Option (ℕ × Code) → Option (ℕ × Code)
bare_exit None = None
bare_exit (Some (r, k)) = Some (r, bare k)

bare-next_exit : (k : Code) → next_exit (bare k) ≡ bare_exit (next_exit k)
bare-next_exit Done = refl
bare-next_exit (Do n p k) = bare-next_exit k
bare-next_exit (If n a b k) = bare-next_exit k
bare-next_exit (While n c b k) = bare-next_exit k
bare-next_exit (Enter n b k) = bare-next_exit k
bare-next_exit (EnterClass n c b k) = bare-next_exit k
bare-next_exit (Exit n r k) = refl

-- ---- frames

abbrev bare_frame : Frame → Frame
bare_frame f = record { objects = f.objects; call = bare_call f.call; below = map bare_call f.below }

abbrev bare_after : After → After
bare_after a = record { objects = a.objects; calls = map bare_call a.calls; mode = a.mode; started = option_map bare_thread a.started }

bare-if : (b : Bool) (x y : After) → bare_after (if b then x else y) ≡ (if b then bare_after x else bare_after y)
bare-if true x y = refl
bare-if false x y = refl

bare-push_if : (f : Frame) (o : Option Value) → bare_after (push_if f o) ≡ push_if (bare_frame f) o
bare-push_if f None = refl
bare-push_if f (Some v) = refl

-- ---- instructions without code inside

bare-set : (f : Frame) (i : ℕ) (ts : List Value) → bare_after (set_from f i ts) ≡ set_from (bare_frame f) i ts
bare-set f i [] = refl
bare-set f i (v ∷ ts) = bare-if (nat_lt i (length f.call.locals)) (goes_on (with_local (with_temps f ts) i v)) (ends f)

bare-drop : (f : Frame) (ts : List Value) → bare_after (drop_from f ts) ≡ drop_from (bare_frame f) ts
bare-drop f [] = refl
bare-drop f (v ∷ ts) = refl

bare-read : (f : Frame) (r i : ℕ) → bare_after (read f r i) ≡ read (bare_frame f) r i
bare-read f r i = bare-push_if f (field_at f.objects r i)

bare-field : (f : Frame) (i : ℕ) (ts : List Value) → bare_after (field_from f i ts) ≡ field_from (bare_frame f) i ts
bare-field f i [] = refl
bare-field f i (value.Int x ∷ ts) = refl
bare-field f i (value.Bool b ∷ ts) = refl
bare-field f i (value.Str s ∷ ts) = refl
bare-field f i (value.Null ∷ ts) = refl
bare-field f i (value.Ref r ∷ ts) = bare-read (with_temps f ts) r i

bare-keep : (f : Frame) (i : ℕ) (ts : List Value) → bare_after (keep_from f i ts) ≡ keep_from (bare_frame f) i ts
bare-keep f i [] = refl
bare-keep f i (value.Int x ∷ ts) = refl
bare-keep f i (value.Bool b ∷ ts) = refl
bare-keep f i (value.Str s ∷ ts) = refl
bare-keep f i (value.Null ∷ ts) = refl
bare-keep f i (value.Ref r ∷ ts) = bare-read (with_temps f (value.Ref r ∷ ts)) r i

bare-write : (f : Frame) (r i : ℕ) (v : Value) → bare_after (write f r i v) ≡ write (bare_frame f) r i v
bare-write f r i v =
    bare-if (is_some (field_at f.objects r i)) (goes_on (with_objects f (changed f.objects r (λ o. with_field o i v)))) (ends f)

bare-put_on : (f : Frame) (i : ℕ) (v : Value) (ts : List Value) → bare_after (put_on f i v ts) ≡ put_on (bare_frame f) i v ts
bare-put_on f i v [] = refl
bare-put_on f i v (value.Int x ∷ ts) = refl
bare-put_on f i v (value.Bool b ∷ ts) = refl
bare-put_on f i v (value.Str s ∷ ts) = refl
bare-put_on f i v (value.Null ∷ ts) = refl
bare-put_on f i v (value.Ref r ∷ ts) = bare-write (with_temps f ts) r i v

bare-put : (f : Frame) (i : ℕ) (ts : List Value) → bare_after (put_from f i ts) ≡ put_from (bare_frame f) i ts
bare-put f i [] = refl
bare-put f i (v ∷ ts) = bare-put_on f i v ts

bare-put_static : (f : Frame) (c i : ℕ) (ts : List Value) → bare_after (put_static_from f c i ts) ≡ put_static_from (bare_frame f) c i ts
bare-put_static f c i [] = refl
bare-put_static f c i (v ∷ ts) = bare-write (with_temps f ts) c i v

bare-operate : (f : Frame) (o : Op) (ts : List Value) → bare_after (operate_from f o ts) ≡ operate_from (bare_frame f) o ts
bare-operate f o [] = refl
bare-operate f o (w ∷ []) = refl
bare-operate f o (w ∷ v ∷ ts) = bare-push_if (with_temps f ts) (operated o v w)

bare-neg : (f : Frame) (ts : List Value) → bare_after (neg_from f ts) ≡ neg_from (bare_frame f) ts
bare-neg f [] = refl
bare-neg f (value.Int x ∷ ts) = refl
bare-neg f (value.Bool b ∷ ts) = refl
bare-neg f (value.Str s ∷ ts) = refl
bare-neg f (value.Null ∷ ts) = refl
bare-neg f (value.Ref r ∷ ts) = refl

bare-not : (f : Frame) (ts : List Value) → bare_after (not_from f ts) ≡ not_from (bare_frame f) ts
bare-not f [] = refl
bare-not f (value.Int x ∷ ts) = refl
bare-not f (value.Bool b ∷ ts) = refl
bare-not f (value.Str s ∷ ts) = refl
bare-not f (value.Null ∷ ts) = refl
bare-not f (value.Ref r ∷ ts) = refl

bare-return_value : (f : Frame) (ts : List Value) → bare_after (return_value_from f ts) ≡ return_value_from (bare_frame f) ts
bare-return_value f [] = refl
bare-return_value f (v ∷ ts) = refl

-- ---- calls

bare-call_for : (u : ℕ) (o : Option UnitCode) (args : List Value) (g : Gives)
    → option_map bare_call (call_for u o args g) ≡ call_for u (option_map bare_unit o) args g
bare-call_for u None args g = refl
bare-call_for u (Some code) args g = refl

bare-call_of : (p : Program) (o : Option ℕ) (args : List Value) (g : Gives)
    → option_map bare_call (call_of p o args g) ≡ call_of (bare_program p) o args g
bare-call_of p None args g = refl
bare-call_of p (Some u) args g = rw (get-map bare_unit p.units u) (bare-call_for u (slice_get p.units u) args g)

bare-begins : (f : Frame) (o : Option Call) → bare_after (begins f o) ≡ begins (bare_frame f) (option_map bare_call o)
bare-begins f None = refl
bare-begins f (Some c) = refl

bare-begins_of : (p : Program) (f : Frame) (o : Option ℕ) (args : List Value) (g : Gives)
    → bare_after (begins f (call_of p o args g)) ≡ begins (bare_frame f) (call_of (bare_program p) o args g)
bare-begins_of p f o args g = bare-begins f (call_of p o args g) ∙ ap (begins (bare_frame f)) (bare-call_of p o args g)

bare-construct : (p : Program) (f : Frame) (r : ℕ) (args : List Value) (o : Option ℕ)
    → bare_after (construct p f r args o) ≡ construct (bare_program p) (bare_frame f) r args o
bare-construct p f r args None = refl
bare-construct p f r args (Some u) = bare-begins_of p f (Some u) (value.Ref r ∷ args) _

bare-make_of : (p : Program) (f : Frame) (c n : ℕ) (args : List Value) (o : Option ClassInfo)
    → bare_after (make_of p f c n args o) ≡ make_of (bare_program p) (bare_frame f) c n args o
bare-make_of p f c n args None = refl
bare-make_of p f c n args (Some info) =
    bare-construct p (with_objects f (made f.objects c info.fields)) (length f.objects) args (unit_number p c NEW n)

bare-make : (p : Program) (f : Frame) (c n : ℕ) (ts : List Value)
    → bare_after (make_from p f c n ts) ≡ make_from (bare_program p) (bare_frame f) c n ts
bare-make p f c n ts =
    bare-if (nat_le n (length ts)) (make_of p (with_temps f (drop n ts)) c n (reverse (take n ts)) (slice_get p.classes c)) (ends f)
    ∙ ap (λ (a : After). if nat_le n (length ts) then a else ends (bare_frame f))
    (bare-make_of p (with_temps f (drop n ts)) c n (reverse (take n ts)) (slice_get p.classes c))

bare-call_in : (p : Program) (f : Frame) (m n : ℕ) (args : List Value) (o : Option ℕ)
    → bare_after (call_in p f m n args o) ≡ call_in (bare_program p) (bare_frame f) m n args o
bare-call_in p f m n args None = refl
bare-call_in p f m n args (Some c) = bare-begins_of p f (unit_number p c m n) args _

bare-call_at : (p : Program) (f : Frame) (m n : ℕ) (args : List Value) (o : Option ℕ)
    → bare_after (call_at p f m n args o) ≡ call_at (bare_program p) (bare_frame f) m n args o
bare-call_at p f m n args None = refl
bare-call_at p f m n args (Some r) = bare-call_in p f m n args (class_of (slice_get f.objects r))

bare-call : (p : Program) (f : Frame) (m n : ℕ) (ts : List Value)
    → bare_after (call_from p f m n ts) ≡ call_from (bare_program p) (bare_frame f) m n ts
bare-call p f m n ts =
    bare-if (nat_lt n (length ts)) (call_on p (with_temps f (drop (n + 1) ts)) m n (reverse (take (n + 1) ts))) (ends f)
    ∙ ap (λ (a : After). if nat_lt n (length ts) then a else ends (bare_frame f))
    (bare-call_at p (with_temps f (drop (n + 1) ts)) m n (reverse (take (n + 1) ts)) (receiver (reverse (take (n + 1) ts))))

bare-call_static : (p : Program) (f : Frame) (c m n : ℕ) (ts : List Value)
    → bare_after (call_static_from p f c m n ts) ≡ call_static_from (bare_program p) (bare_frame f) c m n ts
bare-call_static p f c m n ts =
    bare-if (nat_le n (length ts)) (begins (with_temps f (drop n ts)) (call_of p (unit_number p c m n) (reverse (take n ts)) _)) (ends f)
    ∙ ap (λ (a : After). if nat_le n (length ts) then a else ends (bare_frame f))
    (bare-begins_of p (with_temps f (drop n ts)) (unit_number p c m n) (reverse (take n ts)) _)

bare-start_with : (f : Frame) (o : Option Call) → bare_after (start_with f o) ≡ start_with (bare_frame f) (option_map bare_call o)
bare-start_with f None = refl
bare-start_with f (Some c) = refl

bare-start_in : (p : Program) (f : Frame) (v : Value) (o : Option ℕ)
    → bare_after (start_in p f v o) ≡ start_in (bare_program p) (bare_frame f) v o
bare-start_in p f v None = refl
bare-start_in p f v (Some c) =
    bare-start_with f (call_of p (unit_number p c RUN 0) (v ∷ []) _)
    ∙ ap (start_with (bare_frame f)) (bare-call_of p (unit_number p c RUN 0) (v ∷ []) _)

bare-start : (p : Program) (f : Frame) (ts : List Value) → bare_after (start_from p f ts) ≡ start_from (bare_program p) (bare_frame f) ts
bare-start p f [] = refl
bare-start p f (value.Int x ∷ ts) = refl
bare-start p f (value.Bool b ∷ ts) = refl
bare-start p f (value.Str s ∷ ts) = refl
bare-start p f (value.Null ∷ ts) = refl
bare-start p f (value.Ref r ∷ ts) = bare-start_in p (with_temps f ts) (value.Ref r) (class_of (slice_get f.objects r))

bare-plain : (p : Program) (f : Frame) (i : Plain) → bare_after (do_plain p f i) ≡ do_plain (bare_program p) (bare_frame f) i
bare-plain p f (plain.Const v) = refl
bare-plain p f (plain.Get i) = bare-push_if f (slice_get f.call.locals i)
bare-plain p f (plain.Set i) = bare-set f i f.call.temps
bare-plain p f plain.Drop = bare-drop f f.call.temps
bare-plain p f (plain.Field i) = bare-field f i f.call.temps
bare-plain p f (plain.FieldKeep i) = bare-keep f i f.call.temps
bare-plain p f (plain.PutField i) = bare-put f i f.call.temps
bare-plain p f (plain.Static c i) = bare-read f c i
bare-plain p f (plain.PutStatic c i) = bare-put_static f c i f.call.temps
bare-plain p f (plain.Make c n) = bare-make p f c n f.call.temps
bare-plain p f plain.MakePlain = refl
bare-plain p f (plain.Call m n) = bare-call p f m n f.call.temps
bare-plain p f (plain.CallStatic c m n) = bare-call_static p f c m n f.call.temps
bare-plain p f (plain.Op o) = bare-operate f o f.call.temps
bare-plain p f plain.Neg = bare-neg f f.call.temps
bare-plain p f plain.Not = bare-not f f.call.temps
bare-plain p f plain.Start = bare-start p f f.call.temps
bare-plain p f plain.Return = refl
bare-plain p f plain.ReturnValue = bare-return_value f f.call.temps

-- ---- instructions with code inside

bare-branch : (f : Frame) (a b : Code) (ts : List Value) → bare_after (branch_from f a b ts) ≡ branch_from (bare_frame f) (bare a) (bare b) ts
bare-branch f a b [] = refl
bare-branch f a b (value.Int x ∷ ts) = refl
bare-branch f a b (value.Bool true ∷ ts) = ap (λ k. goes_on (with_temps (with_rest (bare_frame f) k) ts)) (bare-append a f.call.rest)
bare-branch f a b (value.Bool false ∷ ts) = ap (λ k. goes_on (with_temps (with_rest (bare_frame f) k) ts)) (bare-append b f.call.rest)
bare-branch f a b (value.Str s ∷ ts) = refl
bare-branch f a b (value.Null ∷ ts) = refl
bare-branch f a b (value.Ref r ∷ ts) = refl

bare-turn : (f : Frame) (n : Note) (c b : Code) → bare_after (turn f n c b) ≡ turn (bare_frame f) blank (bare c) (bare b)
bare-turn f n c b =
    ap (λ k. goes_on (with_rest (bare_frame f) k))
    (bare-append c (If n (b ⧺ While n c b Done) Done f.call.rest)
    ∙ ap (λ k. bare c ⧺ If blank k Done (bare f.call.rest)) (bare-append b (While n c b Done)))

bare-take : (t : ℕ) (f : Frame) (n : Note) (b : Code) (r : ℕ) (o : Option Obj)
    → bare_after (take_monitor t f n b r o) ≡ take_monitor t (bare_frame f) blank (bare b) r o
bare-take t f n b r None = refl
bare-take t f n b r (Some o) = ap (λ k. goes_on (with_rest (with_objects (bare_frame f) (changed f.objects r (entered t))) k)) (bare-append b (Exit n r f.call.rest))

bare-enter : (t : ℕ) (f : Frame) (n : Note) (b : Code) (ts : List Value)
    → bare_after (enter_from t f n b ts) ≡ enter_from t (bare_frame f) blank (bare b) ts
bare-enter t f n b [] = refl
bare-enter t f n b (value.Int x ∷ ts) = refl
bare-enter t f n b (value.Bool c ∷ ts) = refl
bare-enter t f n b (value.Str s ∷ ts) = refl
bare-enter t f n b (value.Null ∷ ts) = refl
bare-enter t f n b (value.Ref r ∷ ts) =
    bare-if (blocks t (slice_get f.objects r)) (goes_on (with_temps (with_rest f (Enter n b f.call.rest)) (value.Ref r ∷ ts)))
    (take_monitor t (with_temps f ts) n b r (slice_get f.objects r))
    ∙ ap (λ (a : After). if blocks t (slice_get f.objects r)
    then goes_on (with_temps (with_rest (bare_frame f) (Enter blank (bare b) (bare f.call.rest))) (value.Ref r ∷ ts)) else a)
    (bare-take t (with_temps f ts) n b r (slice_get f.objects r))

bare-enter_class : (t : ℕ) (f : Frame) (n : Note) (c : ℕ) (b : Code)
    → bare_after (enter_class t f n c b) ≡ enter_class t (bare_frame f) blank c (bare b)
bare-enter_class t f n c b =
    bare-if (blocks t (slice_get f.objects c)) (goes_on (with_rest f (EnterClass n c b f.call.rest)))
    (take_monitor t f n b c (slice_get f.objects c))
    ∙ ap (λ (a : After). if blocks t (slice_get f.objects c)
    then goes_on (with_rest (bare_frame f) (EnterClass blank c (bare b) (bare f.call.rest))) else a)
    (bare-take t f n b c (slice_get f.objects c))

-- ---- leaving

bare-given : (c : Call) (o : Option Value) → bare_call (with_given c o) ≡ with_given (bare_call c) o
bare-given c None = refl
bare-given c (Some v) = refl

bare-left : (os : List Obj) (o : Option Value) (cs : List Call) → bare_after (resumed os o cs) ≡ resumed os o (map bare_call cs)
bare-left os o [] = refl
bare-left os o (c ∷ cs) =
    ap (λ (d : Call). record { objects = os; calls = d ∷ map bare_call cs; mode = mode.Running; started = None }) (bare-given c o)

bare-dropped : (os : List Obj) (cs : List Call) → bare_after (caller_ended os cs) ≡ caller_ended os (map bare_call cs)
bare-dropped os [] = refl
bare-dropped os (c ∷ cs) = refl

bare-next : (p : Program) (t : ℕ) (f : Frame) (k : Code) → bare_after (running_step p t f k) ≡ running_step (bare_program p) t (bare_frame f) (bare k)
bare-next p t f Done = bare-left f.objects (given f.call.gives None) f.below
bare-next p t f (Do n i k) = bare-plain p (with_rest f k) i
bare-next p t f (If n a b k) = bare-branch (with_rest f k) a b f.call.temps
bare-next p t f (While n c b k) = bare-turn (with_rest f k) n c b
bare-next p t f (Enter n b k) = bare-enter t (with_rest f k) n b f.call.temps
bare-next p t f (EnterClass n c b k) = bare-enter_class t (with_rest f k) n c b
bare-next p t f (Exit n r k) = refl

bare-leave : (f : Frame) (v : Option Value) (o : Option (ℕ × Code)) → bare_after (leaving_step f v o) ≡ leaving_step (bare_frame f) v (bare_exit o)
bare-leave f v None = bare-left f.objects (given f.call.gives v) f.below
bare-leave f v (Some (r, k)) = refl

bare-unwind : (f : Frame) (o : Option (ℕ × Code)) → bare_after (ending_step f o) ≡ ending_step (bare_frame f) (bare_exit o)
bare-unwind f None = bare-dropped f.objects f.below
bare-unwind f (Some (r, k)) = refl

bare-call_step : (p : Program) (t : ℕ) (f : Frame) (m : Mode) → bare_after (call_step p t f m) ≡ call_step (bare_program p) t (bare_frame f) m
bare-call_step p t f mode.Running = bare-next p t f f.call.rest
bare-call_step p t f (mode.Leaving v) =
    bare-leave f v (next_exit f.call.rest) ∙ ap (leaving_step (bare_frame f) v) (sym (bare-next_exit f.call.rest))
bare-call_step p t f mode.Ending = bare-unwind f (next_exit f.call.rest) ∙ ap (ending_step (bare_frame f)) (sym (bare-next_exit f.call.rest))
bare-call_step p t f mode.Over = refl

bare-thread_step : (p : Program) (t : ℕ) (os : List Obj) (h : Thread) (cs : List Call)
    → bare_after (thread_step p t os h cs) ≡ thread_step (bare_program p) t os (bare_thread h) (map bare_call cs)
bare-thread_step p t os h [] = refl
bare-thread_step p t os h (c ∷ cs) = bare-call_step p t (record { objects = os; call = c; below = cs }) h.mode

-- ---- configurations

bare-put_back : (c : Config) (t : ℕ) (a : After) → bare_config (with_step c t a) ≡ with_step (bare_config c) t (bare_after a)
bare-put_back c t a =
    let now : Thread = record { calls = a.calls; mode = a.mode } in
    ap (λ (ts : List Thread). record { objects = a.objects; threads = ts })
    (map-join bare_thread (slice_set c.threads t now) (option_to_list a.started)
    ∙ ap (λ (ts : List Thread). ts ++ map bare_thread (option_to_list a.started)) (map-set bare_thread c.threads t now)
    ∙ ap (λ (ts : List Thread). slice_set (map bare_thread c.threads) t (bare_thread now) ++ ts) (map-option bare_thread a.started))

bare-step_of : (p : Program) (c : Config) (t : ℕ) (o : Option Thread)
    → bare_config (step_of p c t o) ≡ step_of (bare_program p) (bare_config c) t (option_map bare_thread o)
bare-step_of p c t None = refl
bare-step_of p c t (Some h) =
    bare-put_back c t (thread_step p t c.objects h h.calls) ∙ ap (with_step (bare_config c) t) (bare-thread_step p t c.objects h h.calls)

bare-step : (p : Program) (c : Config) (t : ℕ) → bare_config (step p c t) ≡ step (bare_program p) (bare_config c) t
bare-step p c t =
    bare-step_of p c t (slice_get c.threads t)
    ∙ ap (step_of (bare_program p) (bare_config c) t) (sym (get-map bare_thread c.threads t))

bare-run : (p : Program) (c : Config) (schedule : List ℕ) → bare_config (run p c schedule) ≡ run (bare_program p) (bare_config c) schedule
bare-run p c [] = refl
bare-run p c (t ∷ schedule) =
    bare-run p (step p c t) schedule ∙ ap (λ (d : Config). run (bare_program p) d schedule) (bare-step p c t)

bare-main : (o : Option Call) → bare_thread (main_thread o) ≡ main_thread (option_map bare_call o)
bare-main None = refl
bare-main (Some c) = refl

bare-begun : (p : Program) (c : ℕ) → bare_thread (begun_thread p c) ≡ begun_thread (bare_program p) c
bare-begun p c =
    bare-main (call_of p (unit_number p c MAIN 1) (value.Null ∷ []) _)
    ∙ ap main_thread (bare-call_of p (unit_number p c MAIN 1) (value.Null ∷ []) _)

bare-mains : (p : Program) (mains : List ℕ) → map bare_thread (map (begun_thread p) mains) ≡ map (begun_thread (bare_program p)) mains
bare-mains p [] = refl
bare-mains p (m ∷ mains) = ap (λ (h : Thread). h ∷ map bare_thread (map (begun_thread p) mains)) (bare-begun p m)
    ∙ ap (λ (hs : List Thread). begun_thread (bare_program p) m ∷ hs) (bare-mains p mains)

bare-begin : (p : Program) (mains : List ℕ) → bare_config (begin p mains) ≡ begin (bare_program p) mains
bare-begin p mains = ap (λ (hs : List Thread). record { objects = begun_objects p.classes; threads = hs }) (bare-mains p mains)

-- a run without notes is the run of the program without notes
pub bare-whole : (p : Program) (mains schedule : List ℕ)
    → bare_config (run p (begin p mains) schedule) ≡ run (bare_program p) (begin (bare_program p) mains) schedule
bare-whole p mains schedule =
    bare-run p (begin p mains) schedule
    ∙ ap (λ (c : Config). run (bare_program p) c schedule) (bare-begin p mains)

pub alike-runs : (p q : Program) → bare_program p ≡ bare_program q → (mains schedule : List ℕ)
    → bare_config (run p (begin p mains) schedule) ≡ bare_config (run q (begin q mains) schedule)
alike-runs p q e mains schedule =
    bare-whole p mains schedule
    ∙ ap (λ (m : Program). run m (begin m mains) schedule) e
    ∙ sym (bare-whole q mains schedule)
