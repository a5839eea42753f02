-- What each kind of a thread's step keeps holds of each thread in every run: G of the objects, a thread's number, its mode and its
-- calls. R is what a thread's step may do to the objects, on which the other threads rely; K is what is known of each thread.
use Rattle.std.proofs.Common.{◌≡◌, ◌≢◌, ℕ, zero, suc, ◌+◌, ⊎_elim, Bool, true, false, List, [], ◌∷◌, ◌++◌, ◌⊎◌, inl, inr, Option, Some, None, if◌then◌else◌, map, length, slice_get, slice_set, nat_lt, nat_le, is_some, take, drop, reverse, refl, sym, ap, ◌∙◌, subst}
use Rattle.std.specs.Option.{option_to_list}
use Rattle.std.proofs.lemmas.Bool.Decides.{eqb_tells}
use Rattle.core_model.specs.Code.{Code, Done, Do, If, While, Enter, EnterClass, Exit, ◌⧺◌}
use Rattle.core_model.specs.Frames.{with_objects, with_temps, goes_on, ends}
use Rattle.core_model.specs.Straight.{with_local, set_from, write, put_from, put_static_from, return_value_from, branch_from}
use Rattle.core_model.specs.Calling.{begins, construct, make_of, make_from, receiver, call_in, call_at, call_from, call_static_from, start_with, start_in, start_from}
use Rattle.core_model.specs.Monitors.{take_monitor, enter_from, enter_class}
use Rattle.core_model.specs.Objects.{fresh_object, field_at, with_field, changed, class_of, made, blocks, is_other, entered, exited}
use Rattle.core_model.specs.Units.{unit_number, call_with, call_for, call_of}
use Rattle.core_model.specs.Begin.{no_thread, begin, begun_objects, begun_thread, main_thread}
use Rattle.core_model.specs.Step.{do_plain, given, with_given, resumed, running_step, next_exit, leaving_step, ending_step, call_step, thread_step, step_of, step, run}
use Rattle.core_model.specs.declared.program.TheConstants.{NEW, MAIN, RUN}
use Rattle.core_model.specs.declared.instr.Note.{Note}
use Rattle.core_model.specs.declared.instr.Plain.{Plain}
use Rattle.core_model.specs.declared.instr.Plain.TheVariants as plain
use Rattle.core_model.specs.declared.program.Program.{Program}
use Rattle.core_model.specs.declared.program.ClassInfo.{ClassInfo}
use Rattle.core_model.specs.declared.program.UnitCode.{UnitCode}
use Rattle.core_model.specs.declared.config.Call.{Call}
use Rattle.core_model.specs.declared.config.Config.{Config}
use Rattle.core_model.specs.declared.config.Thread.{Thread}
use Rattle.core_model.specs.declared.config.Gives.TheVariants.{Own, Object}
use Rattle.core_model.specs.declared.config.Mode.{Mode}
use Rattle.core_model.specs.declared.config.Mode.TheVariants as mode
use Rattle.core_model.specs.declared.frame.Frame.{Frame}
use Rattle.core_model.specs.declared.frame.After.{After}
use Rattle.core_model.specs.declared.object.Obj.{Obj}
use Rattle.core_model.specs.declared.value.Value.{Value}
use Rattle.core_model.specs.declared.value.Value.TheVariants as value
use Rattle.core_laws.specs.Places.{again, Each}
use Rattle.core_laws.proofs.Owners.{get-set, get-other}
use Rattle.core_laws.proofs.Temps.{IsTemporary, temps_after, by_temps, temporary-is}

-- what comes after the first instruction
abbrev pub past : Code → Code
past Done = Done
past (Do n i k) = k
past (If n a b k) = k
past (While n c b k) = k
past (Enter n b k) = k
past (EnterClass n c b k) = k
past (Exit n r k) = k

-- the instructions by which a thread may end
abbrev pub MayFault : Code → Type 0
MayFault Done = ⊥
MayFault (Do n i k) = Unit {0}
MayFault (If n a b k) = Unit {0}
MayFault (While n c b k) = ⊥
MayFault (Enter n b k) = Unit {0}
MayFault (EnterClass n c b k) = Unit {0}
MayFault (Exit n r k) = ⊥

-- a number that no thread has counts as that of one that is over
abbrev pub or_over : Option Thread → Thread
or_over None = no_thread
or_over (Some h) = h

module _ (p : Program) (K G : List Obj → ℕ → Mode → List Call → Type 0) (R : ℕ → List Obj → List Obj → Type 0) where
  -- a thread before its step
  abbrev pub Found : List Obj → ℕ → Mode → List Call → Type 0
  Found os t m cs = K os t m cs × G os t m cs

  -- a running one, k being what is left of its call on top
  abbrev pub Runs : List Obj → ℕ → Call → Code → List Call → Type 0
  Runs os t c k cs = Found os t mode.Running (record c { rest = k } ∷ cs)

  -- after its step, of which as much is known
  abbrev pub Then : List Obj → ℕ → Mode → List Call → Type 0
  Then os t m cs = K os t m cs → G os t m cs

  -- the step changes the objects
  abbrev pub Makes : List Obj → List Obj → ℕ → Mode → List Call → Type 0
  Makes os ns t m cs = R t os ns × Then ns t m cs

  pub record IsStepwise : Type 0 where
    -- the objects may stay as they are, and G stays while other threads step
    pub same : (t : ℕ) (os : List Obj) → R t os os
    pub stays : (s t : ℕ) (os ns : List Obj) (m : Mode) (cs : List Call) → s ≢ t → R s os ns → G os t m cs → Then ns t m cs
    -- the beginning
    pub begun : (t d u : ℕ) (code : UnitCode) → unit_number p d MAIN 1 ≡ Some u → slice_get p.units u ≡ Some code
        → Then (begun_objects p.classes) t mode.Running (call_with u code (value.Null ∷ []) Own ∷ [])
    pub begun_over : (t : ℕ) → Then (begun_objects p.classes) t mode.Over []
    -- the thread ends by a fault
    pub faults : (os : List Obj) (t : ℕ) (c : Call) (k : Code) (cs : List Call) → Runs os t c k cs
        → MayFault k → Then os t mode.Ending (record c { rest = past k; temps = [] } ∷ cs)
    -- an instruction that changes temporaries alone
    pub pushes : (os : List Obj) (t : ℕ) (c : Call) (n : Note) (i : Plain) (k : Code) (ts : List Value) (cs : List Call)
        → Runs os t c (Do n i k) cs → IsTemporary i → temps_after os c.locals c.temps i ≡ Some ts
        → Then os t mode.Running (record c { rest = k; temps = ts } ∷ cs)
    pub sets : (os : List Obj) (t : ℕ) (c : Call) (n : Note) (i : ℕ) (k : Code) (v : Value) (ts : List Value) (cs : List Call)
        → Runs os t c (Do n (plain.Set i) k) cs → c.temps ≡ v ∷ ts → nat_lt i (length c.locals) ≡ true
        → Then os t mode.Running (record c { rest = k; locals = slice_set c.locals i v; temps = ts } ∷ cs)
    pub writes : (os : List Obj) (t : ℕ) (c : Call) (n : Note) (i : ℕ) (k : Code) (v : Value) (r : ℕ) (ts : List Value) (cs : List Call)
        → Runs os t c (Do n (plain.PutField i) k) cs → c.temps ≡ v ∷ value.Ref r ∷ ts → is_some (field_at os r i) ≡ true
        → Makes os (changed os r (λ o. with_field o i v)) t mode.Running (record c { rest = k; temps = ts } ∷ cs)
    pub writes_static : (os : List Obj) (t : ℕ) (c : Call) (n : Note) (d i : ℕ) (k : Code) (v : Value) (ts : List Value) (cs : List Call)
        → Runs os t c (Do n (plain.PutStatic d i) k) cs → c.temps ≡ v ∷ ts → is_some (field_at os d i) ≡ true
        → Makes os (changed os d (λ o. with_field o i v)) t mode.Running (record c { rest = k; temps = ts } ∷ cs)
    -- new objects
    pub makes_plain : (os : List Obj) (t : ℕ) (c : Call) (n : Note) (k : Code) (cs : List Call) → Runs os t c (Do n plain.MakePlain k) cs
        → Makes os (os ++ fresh_object ∷ []) t mode.Running (record c { rest = k; temps = value.Ref (length os) ∷ c.temps } ∷ cs)
    pub makes : (os : List Obj) (t : ℕ) (c : Call) (n : Note) (d a : ℕ) (k : Code) (info : ClassInfo) (cs : List Call)
        → Runs os t c (Do n (plain.Make d a) k) cs → nat_le a (length c.temps) ≡ true → slice_get p.classes d ≡ Some info
        → unit_number p d NEW a ≡ None
        → Makes os (made os d info.fields) t mode.Running (record c { rest = k; temps = value.Ref (length os) ∷ drop a c.temps } ∷ cs)
    pub constructs : (os : List Obj) (t : ℕ) (c : Call) (n : Note) (d a : ℕ) (k : Code) (info : ClassInfo) (u : ℕ) (code : UnitCode) (cs : List Call)
        → Runs os t c (Do n (plain.Make d a) k) cs → nat_le a (length c.temps) ≡ true → slice_get p.classes d ≡ Some info
        → unit_number p d NEW a ≡ Some u → slice_get p.units u ≡ Some code
        → Makes os (made os d info.fields) t mode.Running
        (call_with u code (value.Ref (length os) ∷ reverse (take a c.temps)) (Object (length os))
        ∷ record c { rest = k; temps = drop a c.temps } ∷ cs)
    pub makes_lost : (os : List Obj) (t : ℕ) (c : Call) (n : Note) (d a : ℕ) (k : Code) (info : ClassInfo) (u : ℕ) (cs : List Call)
        → Runs os t c (Do n (plain.Make d a) k) cs → slice_get p.classes d ≡ Some info → unit_number p d NEW a ≡ Some u
        → slice_get p.units u ≡ None → Makes os (made os d info.fields) t mode.Ending (record c { rest = k; temps = [] } ∷ cs)
    -- calls, and threads that start
    pub calls : (os : List Obj) (t : ℕ) (c : Call) (n : Note) (m a : ℕ) (k : Code) (r d u : ℕ) (code : UnitCode) (cs : List Call)
        → Runs os t c (Do n (plain.Call m a) k) cs → nat_lt a (length c.temps) ≡ true → receiver (reverse (take (a + 1) c.temps)) ≡ Some r
        → class_of (slice_get os r) ≡ Some d → unit_number p d m a ≡ Some u → slice_get p.units u ≡ Some code
        → Then os t mode.Running (call_with u code (reverse (take (a + 1) c.temps)) Own ∷ record c { rest = k; temps = drop (a + 1) c.temps } ∷ cs)
    pub calls_static : (os : List Obj) (t : ℕ) (c : Call) (n : Note) (d m a : ℕ) (k : Code) (u : ℕ) (code : UnitCode) (cs : List Call)
        → Runs os t c (Do n (plain.CallStatic d m a) k) cs → nat_le a (length c.temps) ≡ true → unit_number p d m a ≡ Some u
        → slice_get p.units u ≡ Some code
        → Then os t mode.Running (call_with u code (reverse (take a c.temps)) Own ∷ record c { rest = k; temps = drop a c.temps } ∷ cs)
    pub starts_none : (os : List Obj) (t : ℕ) (c : Call) (n : Note) (k : Code) (ts : List Value) (cs : List Call)
        → Runs os t c (Do n plain.Start k) cs → c.temps ≡ value.Null ∷ ts → Then os t mode.Running (record c { rest = k; temps = ts } ∷ cs)
    pub starts : (os : List Obj) (t : ℕ) (c : Call) (n : Note) (k : Code) (r d u : ℕ) (code : UnitCode) (ts : List Value) (cs : List Call)
        → Runs os t c (Do n plain.Start k) cs → c.temps ≡ value.Ref r ∷ ts → class_of (slice_get os r) ≡ Some d
        → unit_number p d RUN 0 ≡ Some u → slice_get p.units u ≡ Some code
        → Then os t mode.Running (record c { rest = k; temps = ts } ∷ cs)
        × ((s : ℕ) → G os s mode.Over [] → Then os s mode.Running (call_with u code (value.Ref r ∷ []) Own ∷ []))
    -- instructions with code inside
    pub yes : (os : List Obj) (t : ℕ) (c : Call) (n : Note) (a b k : Code) (ts : List Value) (cs : List Call) → Runs os t c (If n a b k) cs
        → c.temps ≡ value.Bool true ∷ ts → Then os t mode.Running (record c { rest = a ⧺ k; temps = ts } ∷ cs)
    pub no : (os : List Obj) (t : ℕ) (c : Call) (n : Note) (a b k : Code) (ts : List Value) (cs : List Call) → Runs os t c (If n a b k) cs
        → c.temps ≡ value.Bool false ∷ ts → Then os t mode.Running (record c { rest = b ⧺ k; temps = ts } ∷ cs)
    pub turns : (os : List Obj) (t : ℕ) (c : Call) (n : Note) (x b k : Code) (cs : List Call) → Runs os t c (While n x b k) cs
        → Then os t mode.Running (record c { rest = x ⧺ again n x b k } ∷ cs)
    pub enters : (os : List Obj) (t : ℕ) (c : Call) (n : Note) (b k : Code) (r : ℕ) (ts : List Value) (o : Obj) (cs : List Call)
        → Runs os t c (Enter n b k) cs → c.temps ≡ value.Ref r ∷ ts → slice_get os r ≡ Some o → is_other t o.owner ≡ false
        → Makes os (changed os r (entered t)) t mode.Running (record c { rest = b ⧺ Exit n r k; temps = ts } ∷ cs)
    pub enters_class : (os : List Obj) (t : ℕ) (c : Call) (n : Note) (d : ℕ) (b k : Code) (o : Obj) (cs : List Call)
        → Runs os t c (EnterClass n d b k) cs → slice_get os d ≡ Some o → is_other t o.owner ≡ false
        → Makes os (changed os d (entered t)) t mode.Running (record c { rest = b ⧺ Exit n d k } ∷ cs)
    pub exits : (os : List Obj) (t : ℕ) (c : Call) (n : Note) (r : ℕ) (k : Code) (cs : List Call) → Runs os t c (Exit n r k) cs
        → Makes os (changed os r exited) t mode.Running (record c { rest = k } ∷ cs)
    -- leaving a call, its result being v
    pub returns : (os : List Obj) (t : ℕ) (c : Call) (n : Note) (k : Code) (cs : List Call) → Runs os t c (Do n plain.Return k) cs
        → Then os t (mode.Leaving None) (record c { rest = k; temps = [] } ∷ cs)
    pub returns_value : (os : List Obj) (t : ℕ) (c : Call) (n : Note) (k : Code) (v : Value) (ts : List Value) (cs : List Call)
        → Runs os t c (Do n plain.ReturnValue k) cs → c.temps ≡ v ∷ ts → Then os t (mode.Leaving (Some v)) (record c { rest = k; temps = [] } ∷ cs)
    pub done : (os : List Obj) (t : ℕ) (c d : Call) (cs : List Call) → Runs os t c Done (d ∷ cs)
        → Then os t mode.Running (with_given d (given c.gives None) ∷ cs)
    pub done_last : (os : List Obj) (t : ℕ) (c : Call) → Runs os t c Done [] → Then os t mode.Over []
    pub gives_up : (os : List Obj) (t : ℕ) (v : Option Value) (c : Call) (r : ℕ) (k : Code) (cs : List Call)
        → Found os t (mode.Leaving v) (c ∷ cs) → next_exit c.rest ≡ Some (r, k)
        → Makes os (changed os r exited) t (mode.Leaving v) (record c { rest = k; temps = [] } ∷ cs)
    pub leaves : (os : List Obj) (t : ℕ) (v : Option Value) (c d : Call) (cs : List Call) → Found os t (mode.Leaving v) (c ∷ d ∷ cs)
        → next_exit c.rest ≡ None → Then os t mode.Running (with_given d (given c.gives v) ∷ cs)
    pub leaves_last : (os : List Obj) (t : ℕ) (v : Option Value) (c : Call) → Found os t (mode.Leaving v) (c ∷ [])
        → next_exit c.rest ≡ None → Then os t mode.Over []
    -- ending call by call
    pub unwinds : (os : List Obj) (t : ℕ) (c : Call) (r : ℕ) (k : Code) (cs : List Call) → Found os t mode.Ending (c ∷ cs)
        → next_exit c.rest ≡ Some (r, k) → Makes os (changed os r exited) t mode.Ending (record c { rest = k; temps = [] } ∷ cs)
    pub drops : (os : List Obj) (t : ℕ) (c d : Call) (cs : List Call) → Found os t mode.Ending (c ∷ d ∷ cs) → next_exit c.rest ≡ None
        → Then os t mode.Ending (record d { temps = [] } ∷ cs)
    pub drops_last : (os : List Obj) (t : ℕ) (c : Call) → Found os t mode.Ending (c ∷ []) → next_exit c.rest ≡ None → Then os t mode.Over []

  module _ (law : IsStepwise) (t : ℕ) (os : List Obj) where
    abbrev IfStarted : List Obj → Option Thread → Type 0
    IfStarted ns None = Unit {0}
    IfStarted ns (Some h) = (s : ℕ) → G os s mode.Over [] → Then ns s h.mode h.calls

    -- what the step leaves
    pub record Kept (a : After) : Type 0 where
      pub allowed : R t os a.objects
      pub own : Then a.objects t a.mode a.calls
      pub started : IfStarted a.objects a.started

    -- the objects stay
    stay : (c : Call) (cs : List Call) (m : Mode) → Then os t m (c ∷ cs) → Kept (record { objects = os; calls = c ∷ cs; mode = m; started = None })
    stay c cs m g = record { allowed = law.same t os; own = g; started = tt }

    -- the objects change
    change : (ns : List Obj) (m : Mode) (cs : List Call) → Makes os ns t m cs → Kept (record { objects = ns; calls = cs; mode = m; started = None })
    change ns m cs g = record { allowed = g.0; own = g.1; started = tt }

    choose : (P : After → Type 0) (b : Bool) (x y : After) → (b ≡ true → P x) → (b ≡ false → P y) → P (if b then x else y)
    choose P true x y h l = h refl
    choose P false x y h l = l refl

    abbrev frame : Call → Code → List Call → Frame
    frame c k cs = record { objects = os; call = record c { rest = k }; below = cs }

    -- a fault, k being what comes after the instruction that l begins with
    fault : (c : Call) (l : Code) (cs : List Call) → Runs os t c l cs → MayFault l → Kept (ends (frame c (past l) cs))
    fault c l cs g may = stay _ cs mode.Ending (law.faults os t c l cs g may)

    kept-temps : (c : Call) (n : Note) (i : Plain) (k : Code) (cs : List Call) (o : Option (List Value)) → temps_after os c.locals c.temps i ≡ o
        → IsTemporary i → Runs os t c (Do n i k) cs → Kept (by_temps (frame c k cs) o)
    kept-temps c n i k cs None e h g = fault c (Do n i k) cs g tt
    kept-temps c n i k cs (Some ts) e h g = stay _ cs mode.Running (law.pushes os t c n i k ts cs g h e)

    kept-set : (c : Call) (n : Note) (i : ℕ) (k : Code) (cs : List Call) (ts : List Value) → c.temps ≡ ts → Runs os t c (Do n (plain.Set i) k) cs
        → Kept (set_from (frame c k cs) i ts)
    kept-set c n i k cs [] e g = fault c (Do n (plain.Set i) k) cs g tt
    kept-set c n i k cs (v ∷ ts) e g =
        choose Kept (nat_lt i (length c.locals)) (goes_on (with_local (with_temps (frame c k cs) ts) i v)) (ends (frame c k cs))
        (λ y. stay _ cs mode.Running (law.sets os t c n i k v ts cs g e y)) (λ y. fault c (Do n (plain.Set i) k) cs g tt)

    kept-write : (c : Call) (l : Code) (cs : List Call) (ts : List Value) (r i : ℕ) (v : Value) → Runs os t c l cs → MayFault l
        → (is_some (field_at os r i) ≡ true → Makes os (changed os r (λ o. with_field o i v)) t mode.Running (record c { rest = past l; temps = ts } ∷ cs))
        → Kept (write (with_temps (frame c (past l) cs) ts) r i v)
    kept-write c l cs ts r i v g may h =
        choose Kept (is_some (field_at os r i)) (goes_on (with_objects (with_temps (frame c (past l) cs) ts) (changed os r (λ o. with_field o i v)))) (ends (frame c (past l) cs))
        (λ y. change _ mode.Running _ (h y)) (λ y. fault c l cs g may)

    kept-put : (c : Call) (n : Note) (i : ℕ) (k : Code) (cs : List Call) (ts : List Value) → c.temps ≡ ts → Runs os t c (Do n (plain.PutField i) k) cs
        → Kept (put_from (frame c k cs) i ts)
    kept-put c n i k cs [] e g = fault c (Do n (plain.PutField i) k) cs g tt
    kept-put c n i k cs (v ∷ []) e g = fault c (Do n (plain.PutField i) k) cs g tt
    kept-put c n i k cs (v ∷ value.Int x ∷ ts) e g = fault c (Do n (plain.PutField i) k) cs g tt
    kept-put c n i k cs (v ∷ value.Bool x ∷ ts) e g = fault c (Do n (plain.PutField i) k) cs g tt
    kept-put c n i k cs (v ∷ value.Str x ∷ ts) e g = fault c (Do n (plain.PutField i) k) cs g tt
    kept-put c n i k cs (v ∷ value.Null ∷ ts) e g = fault c (Do n (plain.PutField i) k) cs g tt
    kept-put c n i k cs (v ∷ value.Ref r ∷ ts) e g =
        kept-write c (Do n (plain.PutField i) k) cs ts r i v g tt (λ y. law.writes os t c n i k v r ts cs g e y)

    kept-put_static : (c : Call) (n : Note) (d i : ℕ) (k : Code) (cs : List Call) (ts : List Value) → c.temps ≡ ts
        → Runs os t c (Do n (plain.PutStatic d i) k) cs → Kept (put_static_from (frame c k cs) d i ts)
    kept-put_static c n d i k cs [] e g = fault c (Do n (plain.PutStatic d i) k) cs g tt
    kept-put_static c n d i k cs (v ∷ ts) e g =
        kept-write c (Do n (plain.PutStatic d i) k) cs ts d i v g tt (λ y. law.writes_static os t c n d i k v ts cs g e y)

    -- ---- new objects

    kept-construct : (c : Call) (n : Note) (d a : ℕ) (k : Code) (info : ClassInfo) (cs : List Call) (u : ℕ) (o : Option UnitCode)
        → Runs os t c (Do n (plain.Make d a) k) cs → nat_le a (length c.temps) ≡ true → slice_get p.classes d ≡ Some info
        → unit_number p d NEW a ≡ Some u → slice_get p.units u ≡ o
        → Kept (begins (with_objects (with_temps (frame c k cs) (drop a c.temps)) (made os d info.fields))
        (call_for u o (value.Ref (length os) ∷ reverse (take a c.temps)) (Object (length os))))
    kept-construct c n d a k info cs u None g l e w x = change _ mode.Ending _ (law.makes_lost os t c n d a k info u cs g e w x)
    kept-construct c n d a k info cs u (Some code) g l e w x = change _ mode.Running _ (law.constructs os t c n d a k info u code cs g l e w x)

    kept-made : (c : Call) (n : Note) (d a : ℕ) (k : Code) (info : ClassInfo) (cs : List Call) (o : Option ℕ) → unit_number p d NEW a ≡ o
        → Runs os t c (Do n (plain.Make d a) k) cs → nat_le a (length c.temps) ≡ true → slice_get p.classes d ≡ Some info
        → Kept (construct p (with_objects (with_temps (frame c k cs) (drop a c.temps)) (made os d info.fields)) (length os) (reverse (take a c.temps)) o)
    kept-made c n d a k info cs None w g l e = change _ mode.Running _ (law.makes os t c n d a k info cs g l e w)
    kept-made c n d a k info cs (Some u) w g l e = kept-construct c n d a k info cs u (slice_get p.units u) g l e w refl

    kept-make_of : (c : Call) (n : Note) (d a : ℕ) (k : Code) (cs : List Call) (o : Option ClassInfo) → slice_get p.classes d ≡ o
        → Runs os t c (Do n (plain.Make d a) k) cs → nat_le a (length c.temps) ≡ true
        → Kept (make_of p (with_temps (frame c k cs) (drop a c.temps)) d a (reverse (take a c.temps)) o)
    kept-make_of c n d a k cs None e g l = fault c (Do n (plain.Make d a) k) cs g tt
    kept-make_of c n d a k cs (Some info) e g l = kept-made c n d a k info cs (unit_number p d NEW a) refl g l e

    kept-make : (c : Call) (n : Note) (d a : ℕ) (k : Code) (cs : List Call) → Runs os t c (Do n (plain.Make d a) k) cs
        → Kept (make_from p (frame c k cs) d a c.temps)
    kept-make c n d a k cs g =
        choose Kept (nat_le a (length c.temps)) (make_of p (with_temps (frame c k cs) (drop a c.temps)) d a (reverse (take a c.temps)) (slice_get p.classes d))
        (ends (frame c k cs)) (λ l. kept-make_of c n d a k cs (slice_get p.classes d) refl g l) (λ l. fault c (Do n (plain.Make d a) k) cs g tt)

    -- ---- calls

    kept-begun : (c : Call) (l : Code) (ts : List Value) (args : List Value) (cs : List Call) (u : ℕ) (o : Option UnitCode) → slice_get p.units u ≡ o
        → Runs os t c l cs → MayFault l
        → ((code : UnitCode) → slice_get p.units u ≡ Some code → Then os t mode.Running (call_with u code args Own ∷ record c { rest = past l; temps = ts } ∷ cs))
        → Kept (begins (with_temps (frame c (past l) cs) ts) (call_for u o args Own))
    kept-begun c l ts args cs u None e g may h = fault c l cs g may
    kept-begun c l ts args cs u (Some code) e g may h = stay _ _ mode.Running (h code e)

    kept-begins : (c : Call) (l : Code) (ts : List Value) (args : List Value) (cs : List Call) (o : Option ℕ)
        → Runs os t c l cs → MayFault l
        → ((u : ℕ) (code : UnitCode) → o ≡ Some u → slice_get p.units u ≡ Some code
        → Then os t mode.Running (call_with u code args Own ∷ record c { rest = past l; temps = ts } ∷ cs))
        → Kept (begins (with_temps (frame c (past l) cs) ts) (call_of p o args Own))
    kept-begins c l ts args cs None g may h = fault c l cs g may
    kept-begins c l ts args cs (Some u) g may h = kept-begun c l ts args cs u (slice_get p.units u) refl g may (λ code e. h u code refl e)

    kept-call_in : (c : Call) (n : Note) (m a : ℕ) (k : Code) (cs : List Call) (r : ℕ) (o : Option ℕ) → class_of (slice_get os r) ≡ o
        → Runs os t c (Do n (plain.Call m a) k) cs → nat_lt a (length c.temps) ≡ true → receiver (reverse (take (a + 1) c.temps)) ≡ Some r
        → Kept (call_in p (with_temps (frame c k cs) (drop (a + 1) c.temps)) m a (reverse (take (a + 1) c.temps)) o)
    kept-call_in c n m a k cs r None w g l e = fault c (Do n (plain.Call m a) k) cs g tt
    kept-call_in c n m a k cs r (Some d) w g l e =
        kept-begins c (Do n (plain.Call m a) k) (drop (a + 1) c.temps) (reverse (take (a + 1) c.temps)) cs (unit_number p d m a) g tt
        (λ u code x y. law.calls os t c n m a k r d u code cs g l e w x y)

    kept-call_at : (c : Call) (n : Note) (m a : ℕ) (k : Code) (cs : List Call) (o : Option ℕ) → receiver (reverse (take (a + 1) c.temps)) ≡ o
        → Runs os t c (Do n (plain.Call m a) k) cs → nat_lt a (length c.temps) ≡ true
        → Kept (call_at p (with_temps (frame c k cs) (drop (a + 1) c.temps)) m a (reverse (take (a + 1) c.temps)) o)
    kept-call_at c n m a k cs None e g l = fault c (Do n (plain.Call m a) k) cs g tt
    kept-call_at c n m a k cs (Some r) e g l = kept-call_in c n m a k cs r (class_of (slice_get os r)) refl g l e

    kept-call : (c : Call) (n : Note) (m a : ℕ) (k : Code) (cs : List Call) → Runs os t c (Do n (plain.Call m a) k) cs
        → Kept (call_from p (frame c k cs) m a c.temps)
    kept-call c n m a k cs g =
        choose Kept (nat_lt a (length c.temps))
        (call_at p (with_temps (frame c k cs) (drop (a + 1) c.temps)) m a (reverse (take (a + 1) c.temps)) (receiver (reverse (take (a + 1) c.temps))))
        (ends (frame c k cs)) (λ l. kept-call_at c n m a k cs (receiver (reverse (take (a + 1) c.temps))) refl g l)
        (λ l. fault c (Do n (plain.Call m a) k) cs g tt)

    kept-call_static : (c : Call) (n : Note) (d m a : ℕ) (k : Code) (cs : List Call) → Runs os t c (Do n (plain.CallStatic d m a) k) cs
        → Kept (call_static_from p (frame c k cs) d m a c.temps)
    kept-call_static c n d m a k cs g =
        choose Kept (nat_le a (length c.temps))
        (begins (with_temps (frame c k cs) (drop a c.temps)) (call_of p (unit_number p d m a) (reverse (take a c.temps)) Own)) (ends (frame c k cs))
        (λ l. kept-begins c (Do n (plain.CallStatic d m a) k) (drop a c.temps) (reverse (take a c.temps)) cs (unit_number p d m a) g tt
        (λ u code x y. law.calls_static os t c n d m a k u code cs g l x y))
        (λ l. fault c (Do n (plain.CallStatic d m a) k) cs g tt)

    kept-starts : (c : Call) (n : Note) (k : Code) (cs : List Call) (r d u : ℕ) (ts : List Value) (o : Option UnitCode) → slice_get p.units u ≡ o
        → Runs os t c (Do n plain.Start k) cs → c.temps ≡ value.Ref r ∷ ts → class_of (slice_get os r) ≡ Some d → unit_number p d RUN 0 ≡ Some u
        → Kept (start_with (with_temps (frame c k cs) ts) (call_for u o (value.Ref r ∷ []) Own))
    kept-starts c n k cs r d u ts None x g e w y = fault c (Do n plain.Start k) cs g tt
    kept-starts c n k cs r d u ts (Some code) x g e w y =
        let h = law.starts os t c n k r d u code ts cs g e w y x in record { allowed = law.same t os; own = h.0; started = h.1 }

    kept-start_of : (c : Call) (n : Note) (k : Code) (cs : List Call) (r d : ℕ) (ts : List Value) (o : Option ℕ) → unit_number p d RUN 0 ≡ o
        → Runs os t c (Do n plain.Start k) cs → c.temps ≡ value.Ref r ∷ ts → class_of (slice_get os r) ≡ Some d
        → Kept (start_with (with_temps (frame c k cs) ts) (call_of p o (value.Ref r ∷ []) Own))
    kept-start_of c n k cs r d ts None y g e w = fault c (Do n plain.Start k) cs g tt
    kept-start_of c n k cs r d ts (Some u) y g e w = kept-starts c n k cs r d u ts (slice_get p.units u) refl g e w y

    kept-start_in : (c : Call) (n : Note) (k : Code) (cs : List Call) (r : ℕ) (ts : List Value) (o : Option ℕ) → class_of (slice_get os r) ≡ o
        → Runs os t c (Do n plain.Start k) cs → c.temps ≡ value.Ref r ∷ ts → Kept (start_in p (with_temps (frame c k cs) ts) (value.Ref r) o)
    kept-start_in c n k cs r ts None w g e = fault c (Do n plain.Start k) cs g tt
    kept-start_in c n k cs r ts (Some d) w g e = kept-start_of c n k cs r d ts (unit_number p d RUN 0) refl g e w

    kept-start : (c : Call) (n : Note) (k : Code) (cs : List Call) (ts : List Value) → c.temps ≡ ts → Runs os t c (Do n plain.Start k) cs
        → Kept (start_from p (frame c k cs) ts)
    kept-start c n k cs [] e g = fault c (Do n plain.Start k) cs g tt
    kept-start c n k cs (value.Int x ∷ ts) e g = fault c (Do n plain.Start k) cs g tt
    kept-start c n k cs (value.Bool x ∷ ts) e g = fault c (Do n plain.Start k) cs g tt
    kept-start c n k cs (value.Str x ∷ ts) e g = fault c (Do n plain.Start k) cs g tt
    kept-start c n k cs (value.Null ∷ ts) e g = stay _ cs mode.Running (law.starts_none os t c n k ts cs g e)
    kept-start c n k cs (value.Ref r ∷ ts) e g = kept-start_in c n k cs r ts (class_of (slice_get os r)) refl g e

    kept-return_value : (c : Call) (n : Note) (k : Code) (cs : List Call) (ts : List Value) → c.temps ≡ ts → Runs os t c (Do n plain.ReturnValue k) cs
        → Kept (return_value_from (frame c k cs) ts)
    kept-return_value c n k cs [] e g = fault c (Do n plain.ReturnValue k) cs g tt
    kept-return_value c n k cs (v ∷ ts) e g = stay _ cs (mode.Leaving (Some v)) (law.returns_value os t c n k v ts cs g e)

    kept-do : (c : Call) (n : Note) (i : Plain) (k : Code) (cs : List Call) → Runs os t c (Do n i k) cs → Kept (do_plain p (frame c k cs) i)
    kept-do c n (plain.Set i) k cs g = kept-set c n i k cs c.temps refl g
    kept-do c n (plain.PutField i) k cs g = kept-put c n i k cs c.temps refl g
    kept-do c n (plain.PutStatic d i) k cs g = kept-put_static c n d i k cs c.temps refl g
    kept-do c n (plain.Make d a) k cs g = kept-make c n d a k cs g
    kept-do c n plain.MakePlain k cs g = change _ mode.Running _ (law.makes_plain os t c n k cs g)
    kept-do c n (plain.Call m a) k cs g = kept-call c n m a k cs g
    kept-do c n (plain.CallStatic d m a) k cs g = kept-call_static c n d m a k cs g
    kept-do c n plain.Start k cs g = kept-start c n k cs c.temps refl g
    kept-do c n plain.Return k cs g = stay _ cs (mode.Leaving None) (law.returns os t c n k cs g)
    kept-do c n plain.ReturnValue k cs g = kept-return_value c n k cs c.temps refl g
    kept-do c n i k cs g = rw (temporary-is p (frame c k cs) i tt) (kept-temps c n i k cs (temps_after os c.locals c.temps i) refl tt g)

    -- ---- instructions with code inside

    kept-branch : (c : Call) (n : Note) (a b k : Code) (cs : List Call) (ts : List Value) → c.temps ≡ ts → Runs os t c (If n a b k) cs
        → Kept (branch_from (frame c k cs) a b ts)
    kept-branch c n a b k cs [] e g = fault c (If n a b k) cs g tt
    kept-branch c n a b k cs (value.Int x ∷ ts) e g = fault c (If n a b k) cs g tt
    kept-branch c n a b k cs (value.Bool true ∷ ts) e g = stay _ cs mode.Running (law.yes os t c n a b k ts cs g e)
    kept-branch c n a b k cs (value.Bool false ∷ ts) e g = stay _ cs mode.Running (law.no os t c n a b k ts cs g e)
    kept-branch c n a b k cs (value.Str x ∷ ts) e g = fault c (If n a b k) cs g tt
    kept-branch c n a b k cs (value.Null ∷ ts) e g = fault c (If n a b k) cs g tt
    kept-branch c n a b k cs (value.Ref x ∷ ts) e g = fault c (If n a b k) cs g tt

    kept-take : (c : Call) (l : Code) (n : Note) (b : Code) (r : ℕ) (ts : List Value) (cs : List Call) (o : Option Obj) → slice_get os r ≡ o
        → blocks t o ≡ false → Runs os t c l cs → MayFault l
        → ((x : Obj) → slice_get os r ≡ Some x → is_other t x.owner ≡ false
        → Makes os (changed os r (entered t)) t mode.Running (record c { rest = b ⧺ Exit n r (past l); temps = ts } ∷ cs))
        → Kept (take_monitor t (with_temps (frame c (past l) cs) ts) n b r o)
    kept-take c l n b r ts cs None e free g may h = fault c l cs g may
    kept-take c l n b r ts cs (Some o) e free g may h = change _ mode.Running _ (h o e free)

    kept-enter : (c : Call) (n : Note) (b k : Code) (cs : List Call) (ts : List Value) → c.temps ≡ ts → Runs os t c (Enter n b k) cs
        → Kept (enter_from t (frame c k cs) n b ts)
    kept-enter c n b k cs [] e g = fault c (Enter n b k) cs g tt
    kept-enter c n b k cs (value.Int x ∷ ts) e g = fault c (Enter n b k) cs g tt
    kept-enter c n b k cs (value.Bool x ∷ ts) e g = fault c (Enter n b k) cs g tt
    kept-enter c n b k cs (value.Str x ∷ ts) e g = fault c (Enter n b k) cs g tt
    kept-enter c n b k cs (value.Null ∷ ts) e g = fault c (Enter n b k) cs g tt
    kept-enter c n b k cs (value.Ref r ∷ ts) e g =
        choose Kept (blocks t (slice_get os r)) (goes_on (with_temps (frame c (Enter n b k) cs) (value.Ref r ∷ ts)))
        (take_monitor t (with_temps (frame c k cs) ts) n b r (slice_get os r))
        (λ y. stay _ cs mode.Running (λ x. subst (λ (l : List Value). G os t mode.Running (record c { rest = Enter n b k; temps = l } ∷ cs)) e g.1))
        (λ y. kept-take c (Enter n b k) n b r ts cs (slice_get os r) refl y g tt (λ o x f. law.enters os t c n b k r ts o cs g e x f))

    kept-enter_class : (c : Call) (n : Note) (d : ℕ) (b k : Code) (cs : List Call) → Runs os t c (EnterClass n d b k) cs
        → Kept (enter_class t (frame c k cs) n d b)
    kept-enter_class c n d b k cs g =
        choose Kept (blocks t (slice_get os d)) (goes_on (frame c (EnterClass n d b k) cs)) (take_monitor t (frame c k cs) n b d (slice_get os d))
        (λ y. stay _ cs mode.Running (λ x. g.1))
        (λ y. kept-take c (EnterClass n d b k) n b d c.temps cs (slice_get os d) refl y g tt (λ o x f. law.enters_class os t c n d b k o cs g x f))

    -- ---- a step, by the mode

    kept-done : (c : Call) (cs : List Call) → Runs os t c Done cs → Kept (resumed os (given c.gives None) cs)
    kept-done c [] g = record { allowed = law.same t os; own = law.done_last os t c g; started = tt }
    kept-done c (d ∷ cs) g = stay _ cs mode.Running (law.done os t c d cs g)

    kept-running : (c : Call) (k : Code) (cs : List Call) → Runs os t c k cs → Kept (running_step p t (record { objects = os; call = c; below = cs }) k)
    kept-running c Done cs g = kept-done c cs g
    kept-running c (Do n i k) cs g = kept-do c n i k cs g
    kept-running c (If n a b k) cs g = kept-branch c n a b k cs c.temps refl g
    kept-running c (While n x b k) cs g = stay _ cs mode.Running (law.turns os t c n x b k cs g)
    kept-running c (Enter n b k) cs g = kept-enter c n b k cs c.temps refl g
    kept-running c (EnterClass n d b k) cs g = kept-enter_class c n d b k cs g
    kept-running c (Exit n r k) cs g = change _ mode.Running _ (law.exits os t c n r k cs g)

    kept-leaving : (v : Option Value) (c : Call) (cs : List Call) (o : Option (ℕ × Code)) → next_exit c.rest ≡ o → Found os t (mode.Leaving v) (c ∷ cs)
        → Kept (leaving_step (record { objects = os; call = c; below = cs }) v o)
    kept-leaving v c [] None e g = record { allowed = law.same t os; own = law.leaves_last os t v c g e; started = tt }
    kept-leaving v c (d ∷ cs) None e g = stay _ cs mode.Running (law.leaves os t v c d cs g e)
    kept-leaving v c cs (Some (r, k)) e g = change _ (mode.Leaving v) _ (law.gives_up os t v c r k cs g e)

    kept-ending : (c : Call) (cs : List Call) (o : Option (ℕ × Code)) → next_exit c.rest ≡ o → Found os t mode.Ending (c ∷ cs)
        → Kept (ending_step (record { objects = os; call = c; below = cs }) o)
    kept-ending c [] None e g = record { allowed = law.same t os; own = law.drops_last os t c g e; started = tt }
    kept-ending c (d ∷ cs) None e g = stay _ cs mode.Ending (law.drops os t c d cs g e)
    kept-ending c cs (Some (r, k)) e g = change _ mode.Ending _ (law.unwinds os t c r k cs g e)

    kept-call_step : (m : Mode) (c : Call) (cs : List Call) → Found os t m (c ∷ cs) → Kept (call_step p t (record { objects = os; call = c; below = cs }) m)
    kept-call_step mode.Running c cs g = kept-running c c.rest cs g
    kept-call_step (mode.Leaving v) c cs g = kept-leaving v c cs (next_exit c.rest) refl g
    kept-call_step mode.Ending c cs g = kept-ending c cs (next_exit c.rest) refl g
    kept-call_step mode.Over c cs g = stay c cs mode.Over (λ x. g.1)

    pub kept-thread : (h : Thread) (cs : List Call) → Found os t h.mode cs → Kept (thread_step p t os h cs)
    kept-thread h [] g = record { allowed = law.same t os; own = λ x. g.1; started = tt }
    kept-thread h (c ∷ cs) g = kept-call_step h.mode c cs g

  module _ (law : IsStepwise) where
    -- G holds of each thread
    abbrev pub Everywhere : Config → Type 0
    Everywhere c = (t : ℕ) → G c.objects t (or_over (slice_get c.threads t)).mode (or_over (slice_get c.threads t)).calls

    abbrev pub AllKnown : Config → Type 0
    AllKnown c = (t : ℕ) → K c.objects t (or_over (slice_get c.threads t)).mode (or_over (slice_get c.threads t)).calls

    abbrev As : List Obj → ℕ → Option Thread → Type 0
    As os t o = Then os t (or_over o).mode (or_over o).calls

    -- of a thread that is there
    pub found : (c : Config) (t : ℕ) (h : Thread) → slice_get c.threads t ≡ Some h → Everywhere c → G c.objects t h.mode h.calls
    found c t h e w = subst (λ (o : Option Thread). G c.objects t (or_over o).mode (or_over o).calls) e (w t)

    -- of another thread than the one that stepped
    other : (t : ℕ) (os ns : List Obj) (new : Option Thread) (s : ℕ) (o n : Option Thread) → t ≢ s → R t os ns → IfStarted law t os ns new
        → (n ≡ o) ⊎ ((o ≡ None) × (n ≡ new)) → G os s (or_over o).mode (or_over o).calls → As ns s n
    other t os ns new s o n ne r started is g =
        ⊎_elim (λ same. subst (As ns s) (sym same) (law.stays t s os ns (or_over o).mode (or_over o).calls ne r g))
        (λ late. subst (As ns s) (sym late.1) (begins new started (subst (λ (x : Option Thread). G os s (or_over x).mode (or_over x).calls) late.0 g))) is
      where
        begins : (x : Option Thread) → IfStarted law t os ns x → G os s mode.Over [] → As ns s x
        begins None h w = law.stays t s os ns mode.Over [] ne r w
        begins (Some x) h w = h s w

    old-or-new : (xs : List Thread) (o : Option Thread) (s : ℕ) → (slice_get (xs ++ option_to_list o) s ≡ slice_get xs s)
        ⊎ ((slice_get xs s ≡ None) × (slice_get (xs ++ option_to_list o) s ≡ o))
    old-or-new [] None s = inl refl
    old-or-new [] (Some x) zero = inr (refl, refl)
    old-or-new [] (Some x) (suc s) = inl refl
    old-or-new (x ∷ xs) o zero = inl refl
    old-or-new (x ∷ xs) o (suc s) = old-or-new xs o s

    front : (xs ys : List Thread) (s : ℕ) (h : Thread) → slice_get xs s ≡ Some h → slice_get (xs ++ ys) s ≡ Some h
    front [] ys s h e = absurd (let no : ⊥ = cc in no)
    front (x ∷ xs) ys zero h e = e
    front (x ∷ xs) ys (suc s) h e = front xs ys s h e

    stepped-of : (c : Config) (t : ℕ) (o : Option Thread) → slice_get c.threads t ≡ o → AllKnown c → Everywhere c
        → (s : ℕ) → As (step_of p c t o).objects s (slice_get (step_of p c t o).threads s)
    stepped-of c t None e known w s = λ z. w s
    stepped-of c t (Some now) e known w s =
        let a : After = thread_step p t c.objects now now.calls in
        let before : Found c.objects t now.mode now.calls =
        (subst (λ (o : Option Thread). K c.objects t (or_over o).mode (or_over o).calls) e (known t), found c t now e w) in
        let k : Kept law t c.objects a = kept-thread law t c.objects now now.calls before in
        let new : Thread = record { calls = a.calls; mode = a.mode } in
        let ts : List Thread = slice_set c.threads t new in
        ⊎_elim
        (λ y. let here : slice_get (ts ++ option_to_list a.started) s ≡ Some new =
        front ts (option_to_list a.started) s new (ap (slice_get ts) (sym y.1) ∙ get-set c.threads t now new e) in
        subst (λ (o : Option Thread). As a.objects s o) (sym here) (subst (λ (i : ℕ). Then a.objects i a.mode a.calls) y.1 k.own))
        (λ no. let there : slice_get ts s ≡ slice_get c.threads s = get-other c.threads t s new no.1 in
        other t c.objects a.objects a.started s (slice_get ts s) (slice_get (ts ++ option_to_list a.started) s) no.1 k.allowed k.started
        (old-or-new ts a.started s) (subst (λ (o : Option Thread). G c.objects s (or_over o).mode (or_over o).calls) (sym there) (w s)))
        (eqb_tells t s)

    pub stepped : (c : Config) (t : ℕ) → AllKnown c → AllKnown (step p c t) → Everywhere c → Everywhere (step p c t)
    stepped c t known later w s = stepped-of c t (slice_get c.threads t) refl known w s (later s)

    step_of-allowed : (c : Config) (t : ℕ) (o : Option Thread) → slice_get c.threads t ≡ o → AllKnown c → Everywhere c → R t c.objects (step_of p c t o).objects
    step_of-allowed c t None e known w = law.same t c.objects
    step_of-allowed c t (Some now) e known w =
        let before : Found c.objects t now.mode now.calls =
        (subst (λ (o : Option Thread). K c.objects t (or_over o).mode (or_over o).calls) e (known t), found c t now e w) in
        (kept-thread law t c.objects now now.calls before).allowed

    -- what a step does to the objects is allowed
    pub step-allowed : (c : Config) (t : ℕ) → AllKnown c → Everywhere c → R t c.objects (step p c t).objects
    step-allowed c t known w = step_of-allowed c t (slice_get c.threads t) refl known w

    begun-for : (t d u : ℕ) (o : Option UnitCode) → unit_number p d MAIN 1 ≡ Some u → slice_get p.units u ≡ o
        → As (begun_objects p.classes) t (Some (main_thread (call_for u o (value.Null ∷ []) Own)))
    begun-for t d u None e w = law.begun_over t
    begun-for t d u (Some code) e w = law.begun t d u code e w

    begun-of : (t d : ℕ) (o : Option ℕ) → unit_number p d MAIN 1 ≡ o
        → As (begun_objects p.classes) t (Some (main_thread (call_of p o (value.Null ∷ []) Own)))
    begun-of t d None e = law.begun_over t
    begun-of t d (Some u) e = begun-for t d u (slice_get p.units u) e refl

    begun-each : (mains : List ℕ) (s t : ℕ) → As (begun_objects p.classes) t (slice_get (map (begun_thread p) mains) s)
    begun-each [] s t = law.begun_over t
    begun-each (d ∷ mains) zero t = begun-of t d (unit_number p d MAIN 1) refl
    begun-each (d ∷ mains) (suc s) t = begun-each mains s t

    pub at-begin : (mains : List ℕ) → AllKnown (begin p mains) → Everywhere (begin p mains)
    at-begin mains known t = begun-each mains t t (known t)

    -- what is known of configurations is kept by steps, and tells what is known of threads
    module _ (Known : Config → Type 0) (kept : (c : Config) (t : ℕ) → Known c → Known (step p c t)) (tells : (c : Config) → Known c → AllKnown c) where
      in-run : (c : Config) (schedule : List ℕ) → Known c → Everywhere c → Everywhere (run p c schedule)
      in-run c [] known w = w
      in-run c (t ∷ schedule) known w =
          in-run (step p c t) schedule (kept c t known) (stepped c t (tells c known) (tells (step p c t) (kept c t known)) w)

      pub always : (mains schedule : List ℕ) → Known (begin p mains) → Everywhere (run p (begin p mains) schedule)
      always mains schedule known = in-run (begin p mains) schedule known (at-begin mains (tells (begin p mains) known))

-- what holds of each thread, and of a number that none has
pub threads-all : (P : Thread → Type 0) (ts : List Thread) → ((t : ℕ) → P (or_over (slice_get ts t))) → Each P ts
threads-all P [] h = tt
threads-all P (x ∷ ts) h = (h 0, threads-all P ts (λ t. h (suc t)))

pub threads-each : (P : Thread → Type 0) (ts : List Thread) (t : ℕ) → P no_thread → Each P ts → P (or_over (slice_get ts t))
threads-each P [] t none h = none
threads-each P (x ∷ ts) zero none h = h.0
threads-each P (x ∷ ts) (suc t) none h = threads-each P ts t none h.1
