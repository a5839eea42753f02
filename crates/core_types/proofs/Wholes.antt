-- Steps and beginnings of whole configurations.
use Rattle.std.proofs.Common.{◌≡◌, ℕ, zero, suc, ◌+◌, true, List, [], ◌∷◌, Option, Some, None, length, map, replicate, slice_get, slice_set, refl, sym, ap, ◌∙◌, subst, arith}
use Rattle.std.specs.Option.{option_to_list}
use Rattle.core_model.specs.Objects.{fresh_object, static_initials}
use Rattle.core_model.specs.Units.{unit_number, call_for, call_of}
use Rattle.core_model.specs.Begin.{begin, begun_thread, begun_objects, main_thread, holders_from, static_fresh, all_fresh}
use Rattle.core_model.specs.Step.{thread_step, step_of, step, run}
use Rattle.core_model.specs.declared.program.TheConstants.{MAIN}
use Rattle.core_model.specs.declared.program.Program.{Program}
use Rattle.core_model.specs.declared.program.ClassInfo.{ClassInfo}
use Rattle.core_model.specs.declared.object.Obj.{Obj}
use Rattle.core_model.specs.declared.object.ObjKind.TheVariants as kind
use Rattle.core_model.specs.declared.config.Config.{Config}
use Rattle.core_model.specs.declared.config.Thread.{Thread}
use Rattle.core_model.specs.declared.config.Gives.TheVariants.{Own}
use Rattle.core_model.specs.declared.frame.After.{After}
use Rattle.core_model.specs.declared.value.Value.TheVariants as value
use Rattle.core_laws.specs.Places.{Each}
use Rattle.core_laws.specs.Marks.{Spined}
use Rattle.core_laws.specs.Shape.{kind_of, HasItsFields}
use Rattle.core_laws.proofs.Lists.{each-get, each-set, each-append}
use Rattle.core_laws.proofs.Carried.{step-has, begin-has}
use Rattle.core_laws.proofs.Spines.{spined-closed}
use Rattle.core_laws.proofs.Marked.{spined-units, counted-step, counted-begin}
use Rattle.core_laws.proofs.Flows.{there-step}
use Rattle.core_laws.proofs.Shaping.{kind-step, fields-kept, shaped-run}
use Rattle.core_types.specs.Types.{Types, of_unit, has, args_of}
use Rattle.core_types.specs.Belonging.{AllBelong}
use Rattle.core_types.specs.Programs.{MainFits, ProgramFits}
use Rattle.core_types.specs.Configs.{IsThere, KindsThere, FieldsFit, ThreadFits, ConfigFits}
use Rattle.core_types.proofs.Widening.{Grows, all-grow}
use Rattle.core_types.proofs.Heaps.{ObjFits, some-is, grows-none, append-each, fresh-fit, fresh-at, get-past, FreshFrom, initials-belong}
use Rattle.core_types.proofs.Goings.{threads-grow}
use Rattle.core_types.proofs.Fields.{class-is}
use Rattle.core_types.proofs.Straightly.{StartedFits}
use Rattle.core_types.proofs.Calls.{this-none, begun-fits, begun-there}
use Rattle.core_types.proofs.Numbers.{calls-there-grow, kinds-append, kinds-cons, kinds-none, kinds-fresh, kinds-kept, member-at}
use Rattle.core_types.proofs.Steps.{thread_step-kept}

module _ (p : Program) (T : Types) where
  abbrev Fit : List Obj → Thread → Type 0
  Fit os h = ThreadFits p T os h

  abbrev There : List Obj → Thread → Type 0
  There os h = Each (IsThere p T os) h.calls

  -- what a step keeps of the fields and the threads
  record Stepped (c : Config) : Type 0 where
    fields : FieldsFit T c.objects
    threads : Each (Fit c.objects) c.threads
    there : Each (There c.objects) c.threads

  started-each : (os : List Obj) (o : Option Thread) → StartedFits p T os o → Each (Fit os) (option_to_list o)
  started-each os None h = tt
  started-each os (Some t) h = (h.0, tt)

  started-there : (os : List Obj) (o : Option Thread) → StartedFits p T os o → Each (There os) (option_to_list o)
  started-there os None h = tt
  started-there os (Some t) h = (h.1, tt)

  threads-there-grow : (os ns : List Obj) (ts : List Thread) → Grows os ns → Each (There os) ts → Each (There ns) ts
  threads-there-grow os ns [] g h = tt
  threads-there-grow os ns (t ∷ ts) g h = (calls-there-grow p T os ns t.calls g h.0, threads-there-grow os ns ts g h.1)

  stepped-of : (c : Config) (t : ℕ) (o : Option Thread) → slice_get c.threads t ≡ o → ConfigFits p T c → Grows c.objects (step_of p c t o).objects
      → Stepped (step_of p c t o)
  stepped-of c t None e w g = record { fields = w.fields; threads = w.threads; there = w.there }
  stepped-of c t (Some now) e w g =
      let a : After = thread_step p t c.objects now now.calls in
      let k = thread_step-kept p T w.program t c.objects now now.calls w.fields w.shaped.holders (each-get (There c.objects) c.threads t now e w.there) (each-get (Fit c.objects) c.threads t now e w.threads) in
      record {
        fields = k.fields;
        threads = each-append (Fit a.objects) (slice_set c.threads t (record { calls = a.calls; mode = a.mode })) (option_to_list a.started)
            (each-set (Fit a.objects) c.threads t (record { calls = a.calls; mode = a.mode }) k.calls (threads-grow p T c.objects a.objects c.threads g w.threads))
            (started-each a.objects a.started k.started);
        there = each-append (There a.objects) (slice_set c.threads t (record { calls = a.calls; mode = a.mode })) (option_to_list a.started)
            (each-set (There a.objects) c.threads t (record { calls = a.calls; mode = a.mode }) k.there (threads-there-grow c.objects a.objects c.threads g w.there))
            (started-there a.objects a.started k.started);
      }

  pub step-fits : (c : Config) (t : ℕ) → ConfigFits p T c → ConfigFits p T (step p c t)
  step-fits c t w =
      let s = stepped-of c t (slice_get c.threads t) refl w (λ r k e. kind-step p c t r k e) in
      record {
        program = w.program;
        shaped = record {
          holders = λ k info e. kind-step p c t k (kind.Holder k) (w.shaped.holders k info e);
          fields = there-step p (HasItsFields p) (fields-kept p) c t w.shaped.fields;
        };
        kinds = there-step p (KindsThere p) (kinds-kept p) c t w.kinds;
        fields = s.fields;
        there = s.there;
        threads = s.threads;
        spined = step-has (λ _. Spined) (λ _. spined-closed) p (spined-units p w.program.unmarked) c t w.spined;
        counted = counted-step p w.program.unmarked c t w.spined w.counted;
      }

  -- ---- the beginning

  holders-long : (c n : ℕ) (cs : List ClassInfo) → length (holders_from c n cs) ≡ length cs
  holders-long c n [] = refl
  holders-long c n (x ∷ cs) = ap suc (holders-long (c + 1) (n + static_fresh x) cs)

  -- cs are the classes from number c on
  abbrev From : ℕ → List ClassInfo → Type 0
  From c cs = (k : ℕ) (info : ClassInfo) → slice_get cs k ≡ Some info → slice_get p.classes (c + k) ≡ Some info

  from-next : (c : ℕ) (x : ClassInfo) (cs : List ClassInfo) → From c (x ∷ cs) → From (c + 1) cs
  from-next c x cs h = λ k info e. let n : c + suc k ≡ c + 1 + k = omega arith in ap (slice_get p.classes) (sym n) ∙ h (suc k) info e

  holders-fit : ProgramFits p T → (ns : List Obj) (c n : ℕ) (cs : List ClassInfo) → From c cs → FreshFrom ns n (all_fresh cs)
      → (r : ℕ) (o : Obj) → slice_get (holders_from c n cs) r ≡ Some o → ObjFits T ns o
  holders-fit program ns c n [] h f r o e = absurd (let no : ⊥ = cc in no)
  holders-fit program ns c n (x ∷ cs) h f zero o e =
      let here : slice_get p.classes c ≡ Some x = let z : c + 0 ≡ c = omega arith in ap (slice_get p.classes) (sym z) ∙ h 0 x refl in
      subst (ObjFits T ns) (some-is e)
      (initials-belong T ns n (static_initials x.fields) _ (λ j less. f j (omega (arith, less))) (program.statics c x here))
  holders-fit program ns c n (x ∷ cs) h f (suc r) o e =
      holders-fit program ns (c + 1) (n + static_fresh x) cs (from-next c x cs h)
      (λ j less. let more : n + static_fresh x + j ≡ n + (static_fresh x + j) = omega arith in
      ap (λ i. kind_of (slice_get ns i)) more ∙ f (static_fresh x + j) (omega (arith, less))) r o e

  begun-fields : ProgramFits p T → FieldsFit T (begun_objects p.classes)
  begun-fields program =
      let cs = p.classes in
      let hs : List Obj = holders_from 0 (length cs) cs in
      let ns : List Obj = begun_objects cs in
      append-each (ObjFits T ns) hs (replicate (all_fresh cs) fresh_object)
      (holders-fit program ns 0 (length cs) cs (λ k info e. let z : 0 + k ≡ k = omega arith in ap (slice_get cs) z ∙ e)
      (λ j less. ap kind_of (get-past hs (replicate (all_fresh cs) fresh_object) j (length cs + j) (ap (λ m. m + j) (sym (holders-long 0 (length cs) cs))))
      ∙ fresh-at (all_fresh cs) j less))
      (fresh-fit T ns (all_fresh cs))

  main-found : (os : List Obj) (program : ProgramFits p T) (c : ℕ) (o : Option ℕ) → unit_number p c MAIN 1 ≡ o → MainFits T o
      → Fit os (main_thread (call_of p o (value.Null ∷ []) Own))
  main-found os program c None e h = absurd h
  main-found os program c (Some u) e h =
      let code = class-is (slice_get p.units u) (member-at p T program c MAIN 1 u e).there in
      let none = this-none (of_unit T u).this h.0 in
      let args : AllBelong T os (value.Null ∷ []) (args_of (of_unit T u)) = rw none (all-grow T [] os (value.Null ∷ []) (of_unit T u).params (grows-none os) h.1) in
      subst (λ w. Fit os (main_thread (call_for u w (value.Null ∷ []) Own))) (sym code.1)
      (begun-fits p T program os u code.0 (value.Null ∷ []) Own code.1 args, tt)

  main-there : (os : List Obj) (program : ProgramFits p T) (c : ℕ) (o : Option ℕ) → unit_number p c MAIN 1 ≡ o → MainFits T o
      → There os (main_thread (call_of p o (value.Null ∷ []) Own))
  main-there os program c None e h = absurd h
  main-there os program c (Some u) e h =
      let code = class-is (slice_get p.units u) (member-at p T program c MAIN 1 u e).there in
      let none = this-none (of_unit T u).this h.0 in
      let args : AllBelong T os (value.Null ∷ []) (args_of (of_unit T u)) = rw none (all-grow T [] os (value.Null ∷ []) (of_unit T u).params (grows-none os) h.1) in
      subst (λ w. There os (main_thread (call_for u w (value.Null ∷ []) Own))) (sym code.1)
      (begun-there p T program os u code.0 (value.Null ∷ []) Own code.1 args tt, tt)

  mains-there : (os : List Obj) → ProgramFits p T → (mains : List ℕ) → Each (λ c. has p.mains c ≡ true) mains
      → Each (There os) (map (begun_thread p) mains)
  mains-there os program [] h = tt
  mains-there os program (c ∷ mains) h =
      (main-there os program c (unit_number p c MAIN 1) refl (program.mains c h.0), mains-there os program mains h.1)

  holders-kinds : (c n : ℕ) (cs : List ClassInfo) → From c cs → KindsThere p (holders_from c n cs)
  holders-kinds c n [] h = kinds-none p
  holders-kinds c n (x ∷ cs) h =
      let here : slice_get p.classes c ≡ Some x = let z : c + 0 ≡ c = omega arith in ap (slice_get p.classes) (sym z) ∙ h 0 x refl in
      kinds-cons p _ (holders_from (c + 1) (n + static_fresh x) cs) (rw here refl) (holders-kinds (c + 1) (n + static_fresh x) cs (from-next c x cs h))

  mains-found : (os : List Obj) → ProgramFits p T → (mains : List ℕ) → Each (λ c. has p.mains c ≡ true) mains
      → Each (Fit os) (map (begun_thread p) mains)
  mains-found os program [] h = tt
  mains-found os program (c ∷ mains) h =
      (main-found os program c (unit_number p c MAIN 1) refl (program.mains c h.0), mains-found os program mains h.1)

  pub begin-fits : ProgramFits p T → (mains : List ℕ) → Each (λ c. has p.mains c ≡ true) mains → ConfigFits p T (begin p mains)
  begin-fits program mains h = record {
    program = program;
    shaped = shaped-run p mains [];
    kinds = kinds-append p (holders_from 0 (length p.classes) p.classes) (replicate (all_fresh p.classes) fresh_object)
        (holders-kinds 0 (length p.classes) p.classes (λ k info e. let z : 0 + k ≡ k = omega arith in ap (slice_get p.classes) z ∙ e))
        (kinds-fresh p (all_fresh p.classes));
    fields = begun-fields program;
    there = mains-there (begun_objects p.classes) program mains h;
    threads = mains-found (begun_objects p.classes) program mains h;
    spined = begin-has (λ _. Spined) (λ _. spined-closed) p (spined-units p program.unmarked) mains;
    counted = counted-begin p program.unmarked mains;
  }

  pub run-fits : (c : Config) (schedule : List ℕ) → ConfigFits p T c → ConfigFits p T (run p c schedule)
  run-fits c [] w = w
  run-fits c (t ∷ schedule) w = run-fits (step p c t) schedule (step-fits c t w)
