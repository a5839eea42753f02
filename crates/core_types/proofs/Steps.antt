-- A step keeps its thread's calls well typed.
use Rattle.std.proofs.Common.{◌≡◌, ℕ, ◌==◌, ⊎_elim, Bool, true, false, if◌then◌else◌, List, [], ◌∷◌, Option, Some, None, slice_get, is_some, refl, sym, ◌∙◌, subst}
use Rattle.std.proofs.lemmas.Bool.Decides.{eqb_tells}
use Rattle.core_model.specs.Code.{Code, Done, Do, If, While, Enter, EnterClass, Exit, ◌⧺◌}
use Rattle.core_model.specs.Frames.{with_objects, with_temps, with_rest, goes_on}
use Rattle.core_model.specs.Straight.{return_value_from, branch_from, turn}
use Rattle.core_model.specs.Monitors.{take_monitor, enter_from, enter_class}
use Rattle.core_model.specs.Objects.{blocks, changed, entered, exited}
use Rattle.core_model.specs.Step.{do_plain, given, resumed, caller_ended, running_step, next_exit, leaving_step, ending_step, call_step, thread_step}
use Rattle.core_model.specs.declared.instr.Note.{Note}
use Rattle.core_model.specs.declared.instr.Plain.{Plain}
use Rattle.core_model.specs.declared.instr.Plain.TheVariants as plain
use Rattle.core_model.specs.declared.program.Program.{Program}
use Rattle.core_model.specs.declared.object.Obj.{Obj}
use Rattle.core_model.specs.declared.config.Call.{Call}
use Rattle.core_model.specs.declared.config.Thread.{Thread}
use Rattle.core_model.specs.declared.config.Gives.{Gives}
use Rattle.core_model.specs.declared.config.Gives.TheVariants.{Own, Object}
use Rattle.core_model.specs.declared.config.Mode.{Mode}
use Rattle.core_model.specs.declared.config.Mode.TheVariants as mode
use Rattle.core_model.specs.declared.frame.Frame.{Frame}
use Rattle.core_model.specs.declared.frame.After.{After}
use Rattle.core_model.specs.declared.value.Value.{Value}
use Rattle.core_model.specs.declared.value.Value.TheVariants as value
use Rattle.core_types.specs.Types.{Ty, Types, of_unit, locals_of}
use Rattle.core_types.specs.Belonging.{is_object, AllBelong}
use Rattle.core_types.specs.Uses.{returned}
use Rattle.core_types.specs.Need.{need, need_of, UseFits, Fits}
use Rattle.core_types.specs.Paths.{reads, reads_by, ends, ends_by, is_true, true_on_top, pushes_true}
use Rattle.core_types.specs.Programs.{ProgramFits, Returns}
use Rattle.core_types.specs.Configs.{IsThere, FieldsFit, IsGoing, need_in, result_in, AwaitsType, AwaitsValue, BeneathFit, ResultFits, CallsFit}
use Rattle.core_types.specs.Faults.{faults, null_under, is_ending}
use Rattle.core_types.proofs.Widening.{Grows, all-grow}
use Rattle.core_types.proofs.Heaps.{Holders, grows-changed, fields-changed}
use Rattle.core_types.proofs.Goings.{going-on, going-known, going-grows, beneath-grows, result-grows}
use Rattle.core_types.proofs.Codes.{need-append, fits-append, need-turn, fits-turn, reads-append, reads-turn, or-left, or-right, ends-known, ends-append, ends-turn}
use Rattle.core_laws.specs.Places.{again, Each}
use Rattle.core_types.proofs.Numbers.{TempsThere, calls-there-grow, temps-there-grow}
use Rattle.core_types.proofs.Fields.{IsFound, is-there, holder-there}
use Rattle.core_types.proofs.Straightly.{Kept, Good, end, const-kept, get-kept, set-kept, drop-kept, neg-kept, not-kept, operate-kept, of-field-kept, of-keep-kept, of-put-kept, static-kept, put-static-kept, plain-kept}
use Rattle.core_types.proofs.Calls.{make-kept, of-call-kept, call-static-kept, start-kept}

module _ (p : Program) (T : Types) (program : ProgramFits p T) where
  -- what a running thread finds, k being what is left of its call
  record Found (f : Frame) (k : Code) : Type 0 where
    fields : FieldsFit T f.objects
    holders : Holders p f.objects
    going : IsGoing p T f.objects (true_on_top f.call.temps) (record f.call { rest = k })
    filled : AllBelong T f.objects f.call.temps (need p T (of_unit T f.call.unit) k [])
    below : BeneathFit p T f.objects f.call.gives (result_in T f.call) f.below
    there : Each (IsThere p T f.objects) (f.call ∷ f.below)

  -- with the first instruction taken
  past : (f : Frame) (k l : Code) → Found f k → Fits p T (of_unit T f.call.unit) l []
      → ((i : ℕ) → reads i l false ≡ true → reads i k false ≡ true)
      → (ends false l true ≡ true → ends (true_on_top f.call.temps) k true ≡ true)
      → Good p T (with_rest f l)
  past f k l g fits r e = record {
    fields = g.fields;
    holders = g.holders;
    going = going-on p T f.objects (record f.call { rest = k }) (true_on_top f.call.temps) false l f.call.temps fits r e g.going;
    below = g.below;
    there = g.there;
  }

  plainly : (f : Frame) (n : Note) (i : Plain) (k : Code) → Found f (Do n i k)
      → ((j : ℕ) (later : Bool) → later ≡ true → reads_by j i later ≡ true)
      → (ends false k true ≡ true → ends_by i (ends (pushes_true i) k true) ≡ true)
      → Good p T (with_rest f k)
  plainly f n i k g r e = past f (Do n i k) k g g.going.fits.1 (λ j h. r j (reads j k false) h) e

  const-found : (f : Frame) (n : Note) (v : Value) (k : Code) → Found f (Do n (plain.Const v) k) → Kept p T false (do_plain p (with_rest f k) (plain.Const v))
  const-found f n v k g =
      const-kept p T program (with_rest f k) v g.going.fits.0 g.filled g.fields
      (going-on p T f.objects (record f.call { rest = Do n (plain.Const v) k }) (true_on_top f.call.temps) (is_true v) k f.call.temps g.going.fits.1 (λ i h. h) (λ h. h) g.going)
      g.below g.there

  same-true : (i : ℕ) → (i == i) ≡ true
  same-true i = ⊎_elim (λ y. y.0) (λ d. absurd (d.1 refl)) (eqb_tells i i)

  return-found : (f : Frame) (n : Note) (k : Code) (r : Option Ty) → Returns r (true_on_top f.call.temps) (Do n plain.Return k) → ResultFits T f.objects r None
  return-found f n k None h = tt
  return-found f n k (Some t) h = absurd (let no : ⊥ = cc in no)

  value-found : (f : Frame) (n : Note) (k : Code) (r : Option Ty) (ts : List Value) → UseFits T (returned r) (need_in p T (record f.call { rest = k }))
      → AllBelong T f.objects ts (need_of (returned r) (need_in p T (record f.call { rest = k })))
      → FieldsFit T f.objects → BeneathFit p T f.objects f.call.gives (result_in T f.call) f.below
      → Each (IsThere p T f.objects) (f.call ∷ f.below) → result_in T f.call ≡ r
      → Kept p T false (return_value_from (with_rest f k) ts)
  value-found f n k None ts s h fields below there e = absurd s
  value-found f n k (Some t) [] s h fields below there e = absurd h
  value-found f n k (Some t) (v ∷ ts) s h fields below there e =
      record { fields = fields; calls = (subst (λ r. ResultFits T f.objects r (Some v)) (sym e) h.0, refl, below); there = there; started = tt; ending = refl }

  do-found : (f : Frame) (n : Note) (i : Plain) (k : Code) → Found f (Do n i k) → Kept p T (faults (Do n i k) f.call.temps) (do_plain p (with_rest f k) i)
  do-found f n (plain.Const v) k g = const-found f n v k g
  do-found f n (plain.Get i) k g =
      get-kept p T program (with_rest f k) i (slice_get (locals_of (of_unit T f.call.unit)) i)
      (plainly f n (plain.Get i) k g (λ j l h. or-right (j == i) l h) (λ h. h)) g.going.fits.0 g.filled (g.going.locals i (or-left (i == i) (reads i k false) (same-true i)))
  do-found f n (plain.Set i) k g = set-kept p T program f n i k f.call.temps (true_on_top f.call.temps) g.fields g.below g.there g.going g.filled
  do-found f n plain.Drop k g = drop-kept p T program (with_rest f k) f.call.temps (plainly f n plain.Drop k g (λ j l h. h) (λ h. h)) g.filled
  do-found f n (plain.Field i) k g =
      of-field-kept p T program (with_rest f k) n.known i f.call.temps (plainly f n (plain.Field i) k g (λ j l h. h) (λ h. h)) g.going.fits.0 g.filled
  do-found f n (plain.FieldKeep i) k g =
      of-keep-kept p T program (with_rest f k) n.known i f.call.temps (plainly f n (plain.FieldKeep i) k g (λ j l h. h) (λ h. h)) g.going.fits.0 g.filled
  do-found f n (plain.PutField i) k g =
      of-put-kept p T program (with_rest f k) n.known i f.call.temps (plainly f n (plain.PutField i) k g (λ j l h. h) (λ h. h)) g.going.fits.0 g.filled
  do-found f n (plain.Static c i) k g =
      static-kept p T program (with_rest f k) c i (plainly f n (plain.Static c i) k g (λ j l h. h) (λ h. h)) g.going.fits.0 g.filled
  do-found f n (plain.PutStatic c i) k g =
      put-static-kept p T program (with_rest f k) c i f.call.temps (plainly f n (plain.PutStatic c i) k g (λ j l h. h) (λ h. h)) g.going.fits.0 g.filled
  do-found f n (plain.Make c m) k g =
      make-kept p T program (with_rest f k) c m f.call.temps (plainly f n (plain.Make c m) k g (λ j l h. h) (λ h. h)) g.going.fits.0 g.filled
  do-found f n plain.MakePlain k g =
      plain-kept p T program (with_rest f k) (plainly f n plain.MakePlain k g (λ j l h. h) (λ h. h)) g.going.fits.0 g.filled
  do-found f n (plain.Call m a) k g =
      of-call-kept p T program (with_rest f k) n.known m a f.call.temps (plainly f n (plain.Call m a) k g (λ j l h. h) (λ h. h)) g.going.fits.0 g.filled
  do-found f n (plain.CallStatic c m a) k g =
      call-static-kept p T program (with_rest f k) c m a f.call.temps (plainly f n (plain.CallStatic c m a) k g (λ j l h. h) (λ h. h)) g.going.fits.0 g.filled
  do-found f n (plain.Op o) k g =
      operate-kept p T program (with_rest f k) o f.call.temps (plainly f n (plain.Op o) k g (λ j l h. h) (λ h. h)) g.going.fits.0 g.filled
  do-found f n plain.Neg k g =
      neg-kept p T program (with_rest f k) f.call.temps (plainly f n plain.Neg k g (λ j l h. h) (λ h. h)) g.going.fits.0 g.filled
  do-found f n plain.Not k g =
      not-kept p T program (with_rest f k) f.call.temps (plainly f n plain.Not k g (λ j l h. h) (λ h. h)) g.going.fits.0 g.filled
  do-found f n plain.Start k g =
      start-kept p T program (with_rest f k) f.call.temps (plainly f n plain.Start k g (λ j l h. h) (λ h. h)) g.filled
  do-found f n plain.Return k g = record {
    fields = g.fields;
    calls = (return-found f n k (result_in T f.call) g.going.returns, refl, g.below);
    there = g.there;
    started = tt;
    ending = refl;
  }
  do-found f n plain.ReturnValue k g =
      value-found f n k (result_in T f.call) f.call.temps g.going.fits.0 g.filled g.fields g.below g.there refl

  -- ---- instructions with code inside

  -- the call goes on with the code, these being its temporaries
  goes-with : (f : Frame) (k l : Code) (ts : List Value) → Found f k → Fits p T (of_unit T f.call.unit) l []
      → ((i : ℕ) → reads i l false ≡ true → reads i k false ≡ true)
      → (ends (true_on_top ts) l true ≡ true → ends (true_on_top f.call.temps) k true ≡ true)
      → AllBelong T f.objects ts (need p T (of_unit T f.call.unit) l [])
      → Kept p T false (goes_on (with_temps (with_rest f l) ts))
  goes-with f k l ts g fits r e h = record {
    fields = g.fields;
    calls = ((going-on p T f.objects (record f.call { rest = k }) (true_on_top f.call.temps) (true_on_top ts) l ts fits r e g.going, h), g.below);
    there = g.there;
    started = tt;
    ending = refl;
  }

  -- the temporaries are given, so that a match tells them
  if-found : (f : Frame) (n : Note) (a b k : Code) (ts : List Value) → f.call.temps ≡ ts → Found f (If n a b k) → Kept p T false (branch_from (with_rest f k) a b ts)
  if-found f n a b k [] e g = absurd (subst (λ l. AllBelong T f.objects l (need p T (of_unit T f.call.unit) (If n a b k) [])) e g.filled)
  if-found f n a b k (value.Int x ∷ ts) e g =
      absurd (let h = (subst (λ l. AllBelong T f.objects l (need p T (of_unit T f.call.unit) (If n a b k) [])) e g.filled).0 in let no : ⊥ = cc in no)
  if-found f n a b k (value.Bool true ∷ ts) e g =
      let u = of_unit T f.call.unit in
      let h = subst (λ l. AllBelong T f.objects l (need p T u (If n a b k) [])) e g.filled in
      goes-with f (If n a b k) (a ⧺ k) ts g (fits-append p T u a k [] g.going.fits.1 g.going.fits.3)
      (λ i r. or-left (reads i a (reads i k false)) (reads i b (reads i k false)) (sym (reads-append i a k false) ∙ r))
      (λ x. or-left (ends false a (ends false k true)) _ (ends-append false a k true (ends-known (true_on_top ts) (a ⧺ k) true x)))
      (rw (need-append p T u a k []) h.1)
  if-found f n a b k (value.Bool false ∷ ts) e g =
      let u = of_unit T f.call.unit in
      let h = subst (λ l. AllBelong T f.objects l (need p T u (If n a b k) [])) e g.filled in
      goes-with f (If n a b k) (b ⧺ k) ts g (fits-append p T u b k [] g.going.fits.2 g.going.fits.3)
      (λ i r. or-right (reads i a (reads i k false)) (reads i b (reads i k false)) (sym (reads-append i b k false) ∙ r))
      (λ x. subst (λ l. ends (true_on_top l) (If n a b k) true ≡ true) (sym e)
      (or-right (ends false a (ends false k true)) (ends false b (ends false k true)) (ends-append false b k true (ends-known (true_on_top ts) (b ⧺ k) true x))))
      (rw (need-append p T u b k []) (subst (λ l. AllBelong T f.objects ts l) g.going.fits.0 h.1))
  if-found f n a b k (value.Str x ∷ ts) e g =
      absurd (let h = (subst (λ l. AllBelong T f.objects l (need p T (of_unit T f.call.unit) (If n a b k) [])) e g.filled).0 in let no : ⊥ = cc in no)
  if-found f n a b k (value.Null ∷ ts) e g =
      absurd (let h = (subst (λ l. AllBelong T f.objects l (need p T (of_unit T f.call.unit) (If n a b k) [])) e g.filled).0 in let no : ⊥ = cc in no)
  if-found f n a b k (value.Ref r ∷ ts) e g =
      absurd (let h = (subst (λ l. AllBelong T f.objects l (need p T (of_unit T f.call.unit) (If n a b k) [])) e g.filled).0 in let no : ⊥ = cc in no)

  while-found : (f : Frame) (n : Note) (c b k : Code) → Found f (While n c b k) → Kept p T false (turn (with_rest f k) n c b)
  while-found f n c b k g =
      let u = of_unit T f.call.unit in
      goes-with f (While n c b k) (c ⧺ again n c b k) f.call.temps g (fits-turn p T u n c b k [] g.going.fits)
      (λ i r. reads-turn i n c b k false r) (λ x. ends-turn (true_on_top f.call.temps) n c b k true x)
      (rw (need-turn p T u n c b k [] g.going.fits) g.filled)

  -- the same call over other objects
  found-with_objects : (f : Frame) (k : Code) (ns : List Obj) → Grows f.objects ns → FieldsFit T ns → Holders p ns → Found f k → Found (with_objects f ns) k
  found-with_objects f k ns w fields holders g = record {
    fields = fields;
    holders = holders;
    going = going-grows p T f.objects ns (true_on_top f.call.temps) (record f.call { rest = k }) w g.going;
    filled = all-grow T f.objects ns f.call.temps (need p T (of_unit T f.call.unit) k []) w g.filled;
    below = beneath-grows p T f.objects ns f.call.gives (result_in T f.call) f.below w g.below;
    there = calls-there-grow p T f.objects ns (f.call ∷ f.below) w g.there;
  }

  -- only the monitor of an object is changed
  monitor-found : (f : Frame) (k : Code) (r : ℕ) (by : Obj → Obj) → ((x : Obj) → (by x).kind ≡ x.kind) → ((x : Obj) → (by x).fields ≡ x.fields)
      → Found f k → Found (with_objects f (changed f.objects r by)) k
  monitor-found f k r by same alike g =
      let w : Grows f.objects (changed f.objects r by) = grows-changed f.objects r by same in
      found-with_objects f k (changed f.objects r by) w
      (fields-changed T f.objects r by same (λ x e h. rw (same x, alike x) h) g.fields)
      (λ c info e. w c _ (g.holders c info e)) g

  entered-found : (t : ℕ) (f : Frame) (n : Note) (b k l : Code) (r : ℕ) (ts : List Value) (o : Option Obj) → is_some o ≡ true → Found f l
      → Fits p T (of_unit T f.call.unit) b (need p T (of_unit T f.call.unit) k []) → Fits p T (of_unit T f.call.unit) k []
      → ((i : ℕ) → reads i b (reads i k false) ≡ true → reads i l false ≡ true)
      → (ends false b (ends false k true) ≡ true → ends (true_on_top f.call.temps) l true ≡ true)
      → AllBelong T f.objects ts (need p T (of_unit T f.call.unit) b (need p T (of_unit T f.call.unit) k []))
      → Kept p T false (take_monitor t (with_temps (with_rest f k) ts) n b r o)
  entered-found t f n b k l r ts None s g fb fk rs es h = absurd (let no : ⊥ = cc in no)
  entered-found t f n b k l r ts (Some o) s g fb fk rs es h =
      let u = of_unit T f.call.unit in
      let ns : List Obj = changed f.objects r (entered t) in
      let w : Grows f.objects ns = grows-changed f.objects r (entered t) (λ x. refl) in
      goes-with (with_objects f ns) l (b ⧺ Exit n r k) ts (monitor-found f l r (entered t) (λ x. refl) (λ x. refl) g)
      (fits-append p T u b (Exit n r k) [] fb fk)
      (λ i x. rs i (sym (reads-append i b (Exit n r k) false) ∙ x))
      (λ x. es (ends-append false b (Exit n r k) true (ends-known (true_on_top ts) (b ⧺ Exit n r k) true x)))
      (rw (need-append p T u b (Exit n r k) []) (all-grow T f.objects ns ts (need p T u b (need p T u k [])) w h))

  enter-found : (t : ℕ) (f : Frame) (n : Note) (b k : Code) (ts : List Value) → f.call.temps ≡ ts → Found f (Enter n b k)
      → Kept p T (null_under 0 ts) (enter_from t (with_rest f k) n b ts)
  enter-found t f n b k [] e g = absurd (subst (λ l. AllBelong T f.objects l (need p T (of_unit T f.call.unit) (Enter n b k) [])) e g.filled)
  enter-found t f n b k (value.Int x ∷ ts) e g =
      absurd (let h = (subst (λ l. AllBelong T f.objects l (need p T (of_unit T f.call.unit) (Enter n b k) [])) e g.filled).0 in let no : ⊥ = cc in no)
  enter-found t f n b k (value.Bool c ∷ ts) e g =
      absurd (let h = (subst (λ l. AllBelong T f.objects l (need p T (of_unit T f.call.unit) (Enter n b k) [])) e g.filled).0 in let no : ⊥ = cc in no)
  enter-found t f n b k (value.Str x ∷ ts) e g =
      absurd (let h = (subst (λ l. AllBelong T f.objects l (need p T (of_unit T f.call.unit) (Enter n b k) [])) e g.filled).0 in let no : ⊥ = cc in no)
  enter-found t f n b k (value.Null ∷ ts) e g = end p T program (with_rest f k) g.fields g.below g.there
  enter-found t f n b k (value.Ref r ∷ ts) e g = chosen (blocks t (slice_get f.objects r))
    where
      there : (os : List Obj) (q : ℕ) → IsFound os q is_object → is_some (slice_get os q) ≡ true
      there os q h = rw h.found refl

      h : AllBelong T f.objects (value.Ref r ∷ ts) (need p T (of_unit T f.call.unit) (Enter n b k) [])
      h = subst (λ l. AllBelong T f.objects l (need p T (of_unit T f.call.unit) (Enter n b k) [])) e g.filled

      chosen : (x : Bool) → Kept p T false
          (if x then goes_on (with_temps (with_rest f (Enter n b k)) (value.Ref r ∷ ts)) else take_monitor t (with_temps (with_rest f k) ts) n b r (slice_get f.objects r))
      chosen true = goes-with f (Enter n b k) (Enter n b k) (value.Ref r ∷ ts) g g.going.fits (λ i x. x)
          (λ x. subst (λ l. ends (true_on_top l) (Enter n b k) true ≡ true) (sym e) x) h
      chosen false = entered-found t f n b k (Enter n b k) r ts (slice_get f.objects r) (there f.objects r (is-there f.objects r is_object h.0)) g
          g.going.fits.0 g.going.fits.1 (λ i x. x) (λ x. x) h.1

  class-found : (t : ℕ) (f : Frame) (n : Note) (c : ℕ) (b k : Code) → Found f (EnterClass n c b k) → Kept p T false (enter_class t (with_rest f k) n c b)
  class-found t f n c b k g = chosen (blocks t (slice_get f.objects c))
    where
      there : (os : List Obj) (q : ℕ) (o : Obj) → slice_get os q ≡ Some o → is_some (slice_get os q) ≡ true
      there os q o h = rw h refl

      chosen : (x : Bool) → Kept p T false
          (if x then goes_on (with_rest f (EnterClass n c b k)) else take_monitor t (with_rest f k) n b c (slice_get f.objects c))
      chosen true = goes-with f (EnterClass n c b k) (EnterClass n c b k) f.call.temps g g.going.fits (λ i x. x) (λ x. x) g.filled
      chosen false =
          let at = holder-there p f.objects c g.holders g.going.fits.0 in
          entered-found t f n b k (EnterClass n c b k) c f.call.temps (slice_get f.objects c) (there f.objects c at.0 at.1) g
          g.going.fits.1 g.going.fits.2 (λ i x. x) (λ x. x) g.filled

  -- ---- leaving

  pushed-value : (os : List Obj) (t : Ty) (v : Value) (ts : List Value) (l : List Ty) → AwaitsType T os t ts l → AllBelong T os (v ∷ []) (t ∷ [])
      → AllBelong T os (v ∷ ts) l
  pushed-value os t v ts [] h b = absurd h
  pushed-value os t v ts (n ∷ l) h b = (h.0 os v b.0, h.1)

  pushed-object : (os : List Obj) (v : Value) (ts : List Value) (l : List Ty) → AwaitsValue T os v ts l → AllBelong T os (v ∷ ts) l
  pushed-object os v ts [] h = absurd h
  pushed-object os v ts (n ∷ l) h = h

  left-found : (os : List Obj) (w : Gives) (r : Option Ty) (v : Option Value) (cs : List Call) → FieldsFit T os → ResultFits T os r v
      → BeneathFit p T os w r cs → Each (IsThere p T os) cs → Kept p T false (resumed os (given w v) cs)
  left-found os w r v [] fields h b q = record { fields = fields; calls = tt; there = tt; started = tt; ending = refl }
  left-found os Own None None (c ∷ cs) fields h b q = record { fields = fields; calls = ((b.0, b.1), b.2); there = q; started = tt; ending = refl }
  left-found os Own None (Some v) (c ∷ cs) fields h b q = absurd h
  left-found os Own (Some t) None (c ∷ cs) fields h b q = absurd h
  left-found os Own (Some t) (Some v) (c ∷ cs) fields h b q = record {
    there = q;
    fields = fields;
    calls = ((going-known p T os c (true_on_top (v ∷ c.temps)) (v ∷ c.temps) b.0, pushed-value os t v c.temps (need_in p T c) b.1 (h, tt)), b.2);
    started = tt;
    ending = refl;
  }
  left-found os (Object q) r v (c ∷ cs) fields h b there = record {
    there = there;
    fields = fields;
    calls = ((going-known p T os c false (value.Ref q ∷ c.temps) b.0, pushed-object os (value.Ref q) c.temps (need_in p T c) b.1), b.2);
    started = tt;
    ending = refl;
  }

  -- the end of the code gives no result
  done-result : (f : Frame) (r : Option Ty) (known : Bool) → Returns r known Done → ResultFits T f.objects r None
  done-result f None known h = tt
  done-result f (Some t) known h = absurd (let no : ⊥ = cc in no)

  next-found : (t : ℕ) (f : Frame) (k : Code) → Found f k → Kept p T (faults k f.call.temps) (running_step p t f k)
  next-found t f Done g =
      left-found f.objects f.call.gives (result_in T f.call) None f.below g.fields (done-result f (result_in T f.call) (true_on_top f.call.temps) g.going.returns) g.below g.there.1
  next-found t f (Do n i k) g = do-found f n i k g
  next-found t f (If n a b k) g = if-found f n a b k f.call.temps refl g
  next-found t f (While n c b k) g = while-found f n c b k g
  next-found t f (Enter n b k) g = enter-found t f n b k f.call.temps refl g
  next-found t f (EnterClass n c b k) g = class-found t f n c b k g
  next-found t f (Exit n r k) g =
      goes-with (with_objects f (changed f.objects r exited)) (Exit n r k) k f.call.temps
      (monitor-found f (Exit n r k) r exited (λ x. refl) (λ x. refl) g) g.going.fits (λ i x. x)
      (ends-known (true_on_top f.call.temps) k true) (all-grow T f.objects (changed f.objects r exited) f.call.temps (need_in p T (record f.call { rest = k })) (grows-changed f.objects r exited (λ x. refl)) g.filled)

  fields-exited : (os : List Obj) (r : ℕ) → FieldsFit T os → FieldsFit T (changed os r exited)
  fields-exited os r h = fields-changed T os r exited (λ x. refl) (λ x e y. y) h

  leave-found : (f : Frame) (v : Option Value) (o : Option (ℕ × Code)) → FieldsFit T f.objects → ResultFits T f.objects (result_in T f.call) v
      → BeneathFit p T f.objects f.call.gives (result_in T f.call) f.below → Each (IsThere p T f.objects) (f.call ∷ f.below)
      → Kept p T false (leaving_step f v o)
  leave-found f v None fields h b there = left-found f.objects f.call.gives (result_in T f.call) v f.below fields h b there.1
  leave-found f v (Some (r, k)) fields h b there =
      let w : Grows f.objects (changed f.objects r exited) = grows-changed f.objects r exited (λ x. refl) in
      record {
        fields = fields-exited f.objects r fields;
        calls = (
          result-grows T f.objects (changed f.objects r exited) (result_in T f.call) v w h,
          refl,
          beneath-grows p T f.objects (changed f.objects r exited) f.call.gives (result_in T f.call) f.below w b,
        );
        there = calls-there-grow p T f.objects (changed f.objects r exited) (f.call ∷ f.below) w there;
        started = tt;
        ending = refl;
      }

  dropped-found : (os : List Obj) (cs : List Call) → FieldsFit T os → Each (TempsThere T os) cs → Each (IsThere p T os) cs
      → Kept p T (is_ending (caller_ended os cs).mode) (caller_ended os cs)
  dropped-found os [] fields ts there = record { fields = fields; calls = tt; there = tt; started = tt; ending = refl }
  dropped-found os (c ∷ cs) fields ts there = record { fields = fields; calls = (refl, ts.1); there = there; started = tt; ending = refl }

  unwind-found : (f : Frame) (o : Option (ℕ × Code)) → FieldsFit T f.objects → Each (TempsThere T f.objects) f.below
      → Each (IsThere p T f.objects) (f.call ∷ f.below) → Kept p T (is_ending (ending_step f o).mode) (ending_step f o)
  unwind-found f None fields ts there = dropped-found f.objects f.below fields ts there.1
  unwind-found f (Some (r, k)) fields ts there =
      let w : Grows f.objects (changed f.objects r exited) = grows-changed f.objects r exited (λ x. refl) in
      record {
        fields = fields-exited f.objects r fields;
        calls = (refl, temps-there-grow T f.objects (changed f.objects r exited) f.below w ts);
        there = calls-there-grow p T f.objects (changed f.objects r exited) (f.call ∷ f.below) w there;
        started = tt;
        ending = refl;
      }

  pub running-found : (t : ℕ) (f : Frame) → FieldsFit T f.objects → Holders p f.objects → Each (IsThere p T f.objects) (f.call ∷ f.below)
      → CallsFit p T f.objects mode.Running (f.call ∷ f.below) → Kept p T (faults f.call.rest f.call.temps) (running_step p t f f.call.rest)
  running-found t f fields holders there h =
      next-found t f f.call.rest (record { fields = fields; holders = holders; going = h.0.0; filled = h.0.1; below = h.1; there = there })

  pub leaving-found : (f : Frame) (v : Option Value) → FieldsFit T f.objects → Each (IsThere p T f.objects) (f.call ∷ f.below)
      → CallsFit p T f.objects (mode.Leaving v) (f.call ∷ f.below) → Kept p T false (leaving_step f v (next_exit f.call.rest))
  leaving-found f v fields there h = leave-found f v (next_exit f.call.rest) fields h.0 h.2 there

  any-ending : (x : Bool) (a : After) → Kept p T x a → Kept p T (is_ending a.mode) a
  any-ending x a k = record { fields = k.fields; calls = k.calls; there = k.there; started = k.started; ending = refl }

  move-found : (t : ℕ) (f : Frame) (m : Mode) → FieldsFit T f.objects → Holders p f.objects → Each (IsThere p T f.objects) (f.call ∷ f.below)
      → CallsFit p T f.objects m (f.call ∷ f.below) → Kept p T (is_ending (call_step p t f m).mode) (call_step p t f m)
  move-found t f mode.Running fields holders there h =
      any-ending (faults f.call.rest f.call.temps) (running_step p t f f.call.rest) (running-found t f fields holders there h)
  move-found t f (mode.Leaving v) fields holders there h =
      any-ending false (leaving_step f v (next_exit f.call.rest)) (leaving-found f v fields there h)
  move-found t f mode.Ending fields holders there h = unwind-found f (next_exit f.call.rest) fields h.1 there
  move-found t f mode.Over fields holders there h = absurd h

  over-found : (os : List Obj) (m : Mode) → FieldsFit T os → CallsFit p T os m []
      → Kept p T (is_ending m) (record { objects = os; calls = []; mode = m; started = None })
  over-found os mode.Running fields h = absurd h
  over-found os (mode.Leaving v) fields h = absurd h
  over-found os mode.Ending fields h = absurd h
  over-found os mode.Over fields h = record { fields = fields; calls = tt; there = tt; started = tt; ending = refl }

  pub thread_step-kept : (t : ℕ) (os : List Obj) (h : Thread) (cs : List Call) → FieldsFit T os → Holders p os → Each (IsThere p T os) cs
      → CallsFit p T os h.mode cs → Kept p T (is_ending (thread_step p t os h cs).mode) (thread_step p t os h cs)
  thread_step-kept t os h [] fields holders there calls = over-found os h.mode fields calls
  thread_step-kept t os h (c ∷ cs) fields holders there calls =
      move-found t (record { objects = os; call = c; below = cs }) h.mode fields holders there calls
