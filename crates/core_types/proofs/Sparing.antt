-- A field that no code writes keeps its value.
use Rattle.std.proofs.Common.{◌≡◌, ◌≢◌, ℕ, zero, suc, ◌==◌, ◌||◌, ◌&&◌, not, ⊎_elim, Bool, true, false, List, [], ◌∷◌, ◌++◌, Option, Some, None, slice_get, slice_set, is_some, refl, sym, ap, ◌∙◌, subst}
use Rattle.std.proofs.lemmas.Bool.Decides.{eqb_tells}
use Rattle.core_model.specs.Code.{Code, Do}
use Rattle.core_model.specs.Objects.{field_of, field_at, with_field, put_for, changed, entered, exited, fresh_object}
use Rattle.core_model.specs.Begin.{begin}
use Rattle.core_model.specs.Step.{step, run}
use Rattle.core_model.specs.declared.instr.Known.{Known}
use Rattle.core_model.specs.declared.instr.Known.TheVariants as known
use Rattle.core_model.specs.declared.instr.Note.{Note}
use Rattle.core_model.specs.declared.instr.Plain.TheVariants as plain
use Rattle.core_model.specs.declared.program.Program.{Program}
use Rattle.core_model.specs.declared.program.UnitCode.{UnitCode}
use Rattle.core_model.specs.declared.config.Call.{Call}
use Rattle.core_model.specs.declared.config.Config.{Config}
use Rattle.core_model.specs.declared.config.Thread.{Thread}
use Rattle.core_model.specs.declared.config.Mode.{Mode}
use Rattle.core_model.specs.declared.object.Obj.{Obj}
use Rattle.core_model.specs.declared.object.ObjKind.{ObjKind}
use Rattle.core_model.specs.declared.object.ObjKind.TheVariants as kind
use Rattle.core_model.specs.declared.value.Value.{Value}
use Rattle.core_model.specs.declared.value.Value.TheVariants as value
use Rattle.core_laws.specs.Places.{Always, Each, EveryCall}
use Rattle.core_laws.specs.Shape.{kind_of, kind_at}
use Rattle.core_laws.proofs.Owners.{get-set, get-other}
use Rattle.core_laws.proofs.Shaping.{change-kind, append-kind}
use Rattle.core_laws.proofs.Always.{always-closed, always-here}
use Rattle.core_laws.proofs.Carried.{Has, UnitsHave, step-has, begin-has}
use Rattle.core_laws.proofs.Stepping.{or_over, IsStepwise, step-allowed, threads-each}
use Rattle.core_types.specs.Types.{Ty, ClassTypes, Types, or_no_class, of_class, of_unit, has, is_class}
use Rattle.core_types.specs.Belonging.{is_of, AllBelong}
use Rattle.core_types.specs.Uses.{popped, field_written, of_field}
use Rattle.core_types.specs.Need.{need_of, UseFits, need}
use Rattle.core_types.specs.Programs.{ProgramFits}
use Rattle.core_types.specs.Configs.{CallsFit, ThreadFits, ConfigFits}
use Rattle.core_types.specs.Spared.{is_made_of, is_holder_of, is_noted, spares_field}
use Rattle.core_types.proofs.Heaps.{some-is, Holders}
use Rattle.core_types.proofs.Fields.{is-there, class-there, holder-there}
use Rattle.core_types.proofs.Wholes.{begin-fits, step-fits, run-fits}

-- ---- fields of a list of objects

at-changed : (os : List Obj) (q r i : ℕ) (o : Option Obj) (f : Obj → Obj) → slice_get os q ≡ o
    → (q ≡ r → (x : Obj) → slice_get os q ≡ Some x → slice_get (f x).fields i ≡ slice_get x.fields i)
    → field_of (slice_get (put_for os q o f) r) i ≡ field_of (slice_get os r) i
at-changed os q r i None f e h = refl
at-changed os q r i (Some o) f e h =
    ⊎_elim (λ y. sym (ap (λ (j : ℕ). field_of (slice_get (slice_set os q (f o)) j) i) y.1)
    ∙ ap (λ (x : Option Obj). field_of x i) (get-set os q o (f o) e) ∙ h y.1 o e
    ∙ sym (ap (λ (x : Option Obj). field_of x i) e) ∙ ap (λ (j : ℕ). field_of (slice_get os j) i) y.1)
    (λ no. ap (λ (x : Option Obj). field_of x i) (get-other os q r (f o) no.1)) (eqb_tells q r)

at-append : (os ns : List Obj) (r i : ℕ) (v : Value) → field_at os r i ≡ Some v → field_at (os ++ ns) r i ≡ Some v
at-append [] ns r i v e = absurd (let no : ⊥ = cc in no)
at-append (o ∷ os) ns zero i v e = e
at-append (o ∷ os) ns (suc r) i v e = at-append os ns r i v e

both-false : (a b : Bool) → not (a && b) ≡ true → a ≡ true → b ≡ false
both-false true true e h = absurd (let no : ⊥ = cc in no)
both-false true false e h = refl
both-false false b e h = absurd (let no : ⊥ = cc in no)

same-true : (n : ℕ) → (n == n) ≡ true
same-true n = ⊎_elim (λ y. y.0) (λ d. absurd (d.1 refl)) (eqb_tells n n)

unequal : (a b : ℕ) → (a == b) ≡ false → a ≢ b
unequal a b e h = let t : (a == b) ≡ true = subst (λ (x : ℕ). (a == x) ≡ true) h (same-true a) in let no : ⊥ = cc in no

types-some : (o : Option ClassTypes) (j : ℕ) → is_some (slice_get (or_no_class o).statics j) ≡ true → is_some o ≡ true
types-some None j e = absurd (let no : ⊥ = cc in no)
types-some (Some c) j e = refl

module _ (p : Program) (T : Types) (program : ProgramFits p T) where
  -- an object of the class has that kind, where the class has a field
  made-of : (c e j : ℕ) (t : Ty) → is_class T c e ≡ true → slice_get (of_class T c).own j ≡ Some t → e ≡ c
  made-of c e j t h f =
      ⊎_elim (λ y. y.1)
      (λ n. let named : has (of_class T e).implements c ≡ true = ap (λ x. x || has (of_class T e).implements c) (sym n.0) ∙ h in
      let none : slice_get (of_class T c).own j ≡ None = ap (λ l. slice_get l j) ((program.implements e c named).fields) in
      absurd (let no : ⊥ = cc in no))
      (eqb_tells e c)

  made-kind : (c j : ℕ) (t : Ty) (k : ObjKind) → is_of T c k ≡ true → slice_get (of_class T c).own j ≡ Some t → k ≡ kind.Made c
  made-kind c j t (kind.Holder e) h f = absurd (let no : ⊥ = cc in no)
  made-kind c j t (kind.Made e) h f = ap kind.Made (made-of c e j t h f)
  made-kind c j t kind.Plain h f = absurd (let no : ⊥ = cc in no)

  noted-made : (k : ObjKind) (c : ℕ) → k ≡ kind.Made c → is_made_of k c ≡ true
  noted-made k c e = rw e (same-true c)

  noted-holder : (k : ObjKind) (c : ℕ) → k ≡ kind.Holder c → is_holder_of k c ≡ true
  noted-holder k c e = rw e (same-true c)

  written-class : (os : List Obj) (c j r : ℕ) (o : Option Ty) (v : Value) (ts : List Value) (l : List Ty) → slice_get (of_class T c).own j ≡ o
      → UseFits T (field_written c o) l → AllBelong T os (v ∷ value.Ref r ∷ ts) (need_of (field_written c o) l)
      → (x : Obj) → slice_get os r ≡ Some x → is_made_of x.kind c ≡ true
  written-class os c j r None v ts l e s h x at = absurd s
  written-class os c j r (Some t) v ts l e s h x at =
      let found = is-there os r (is_of T c) h.1.0 in
      let same : found.obj ≡ x = some-is (sym found.found ∙ at) in
      subst (λ (y : Obj). is_made_of y.kind c ≡ true) same (noted-made found.obj.kind c (made-kind c j t found.obj.kind found.passes e))

  -- the object that is written is of the noted class
  written-noted : (os : List Obj) (n : Known) (j r : ℕ) (v : Value) (ts : List Value) (l : List Ty) → UseFits T (of_field field_written T n j) l
      → AllBelong T os (v ∷ value.Ref r ∷ ts) (need_of (of_field field_written T n j) l)
      → (x : Obj) → slice_get os r ≡ Some x → is_noted x.kind n ≡ true
  written-noted os known.Nothing j r v ts l s h x at = absurd s
  written-noted os (known.Class c) j r v ts l s h x at = written-class os c j r (slice_get (of_class T c).own j) v ts l refl s h x at
  written-noted os (known.Monitor m) j r v ts l s h x at = absurd s

  statics-some : (o : Option Ty) (l : List Ty) → UseFits T (popped o) l → is_some o ≡ true
  statics-some None l s = absurd s
  statics-some (Some t) l s = refl

  static-holder : (os : List Obj) (d j : ℕ) → Holders p os → is_some (slice_get (of_class T d).statics j) ≡ true
      → (x : Obj) → slice_get os d ≡ Some x → is_holder_of x.kind d ≡ true
  static-holder os d j holders s x at =
      let there = class-there T.classes p.classes d program.long (types-some (slice_get T.classes d) j s) in
      let holder = holder-there p os d holders there in
      let same : holder.0 ≡ x = some-is (sym holder.1 ∙ at) in
      subst (λ (y : Obj). is_holder_of y.kind d ≡ true) same (noted-holder holder.0.kind d holder.2)

  module _ (k : ObjKind) (i : ℕ) (spared : (u : ℕ) (code : UnitCode) → slice_get p.units u ≡ Some code → Always (λ l. spares_field k i l ≡ true) code.code) where
    abbrev Spares : Code → Type 0
    Spares l = spares_field k i l ≡ true

    abbrev Spared : ℕ → Code → Type 0
    Spared u = Always Spares

    -- what is known of a thread
    record Known_thread (os : List Obj) (t : ℕ) (m : Mode) (cs : List Call) : Type 0 where
      typed : CallsFit p T os m cs
      holders : Holders p os
      spares : Each (Has Spared) cs

    -- the field stays as it is in objects of the kind
    abbrev Stays : ℕ → List Obj → List Obj → Type 0
    Stays s os ns = (r : ℕ) (v : Value) → kind_of (slice_get os r) ≡ Some k → field_at os r i ≡ Some v
        → (kind_of (slice_get ns r) ≡ Some k) × (field_at ns r i ≡ Some v)

    -- other fields, or other objects
    changes : (s : ℕ) (os : List Obj) (q : ℕ) (f : Obj → Obj) → ((x : Obj) → (f x).kind ≡ x.kind)
        → ((x : Obj) → slice_get os q ≡ Some x → x.kind ≡ k → slice_get (f x).fields i ≡ slice_get x.fields i) → Stays s os (changed os q f)
    changes s os q f same h = λ r v e g. (
      change-kind os q r (slice_get os q) f same refl ∙ e,
      at-changed os q r i (slice_get os q) f refl
          (λ y x at. h x at (some-is (sym (ap kind_of at) ∙ ap (λ (j : ℕ). kind_of (slice_get os j)) y ∙ e))) ∙ g,
    )

    appends : (s : ℕ) (os ns : List Obj) → Stays s os (os ++ ns)
    appends s os ns = λ r v e g. (append-kind os ns r k e, at-append os ns r i v g)

    other-field : (j : ℕ) (x : Obj) (v : Value) → j ≢ i → slice_get (with_field x j v).fields i ≡ slice_get x.fields i
    other-field j x v ne = get-other x.fields j i v ne

    puts : (s : ℕ) (os : List Obj) (n : Note) (j r : ℕ) (v : Value) (ts : List Value) (l : Code) (after : List Ty)
        → UseFits T (of_field field_written T n.known j) after → AllBelong T os (v ∷ value.Ref r ∷ ts) (need_of (of_field field_written T n.known j) after)
        → Spares (Do n (plain.PutField j) l) → Stays s os (changed os r (λ o. with_field o j v))
    puts s os n j r v ts l after fits belong spares =
        changes s os r (λ o. with_field o j v) (λ x. refl)
        (λ x at is. other-field j x v (unequal j i (both-false (is_noted k n.known) (j == i) spares
        (subst (λ (y : ObjKind). is_noted y n.known ≡ true) is (written-noted os n.known j r v ts after fits belong x at)))))

    puts_static : (s : ℕ) (os : List Obj) (n : Note) (d j : ℕ) (v : Value) (l : Code) → Holders p os → is_some (slice_get (of_class T d).statics j) ≡ true
        → Spares (Do n (plain.PutStatic d j) l) → Stays s os (changed os d (λ o. with_field o j v))
    puts_static s os n d j v l holders typed spares =
        changes s os d (λ o. with_field o j v) (λ x. refl)
        (λ x at is. other-field j x v (unequal j i (both-false (is_holder_of k d) (j == i) spares
        (subst (λ (y : ObjKind). is_holder_of y d ≡ true) is (static-holder os d j holders typed x at)))))

    monitors : (s : ℕ) (os : List Obj) (q : ℕ) (f : Obj → Obj) → ((x : Obj) → (f x).kind ≡ x.kind) → ((x : Obj) → (f x).fields ≡ x.fields)
        → Stays s os (changed os q f)
    monitors s os q f same alike = changes s os q f same (λ x at is. ap (λ (vs : List Value). slice_get vs i) (alike x))

    stepwise : IsStepwise p Known_thread (λ os t m cs. Unit {0}) Stays
    stepwise = record {
      same = λ t os r v e g. (e, g);
      stays = λ s t os ns m cs ne r g z. tt;
      begun = λ t d u code e w z. tt;
      begun_over = λ t z. tt;
      faults = λ os t c l cs f may z. tt;
      pushes = λ os t c n j l ts cs f h e z. tt;
      sets = λ os t c n j l v ts cs f e less z. tt;
      writes = λ os t c n j l v r ts cs f e w. (
        puts t os n j r v ts l (need p T (of_unit T c.unit) l []) f.0.typed.0.0.fits.0
            (subst (λ (vs : List Value). AllBelong T os vs (need p T (of_unit T c.unit) (Do n (plain.PutField j) l) [])) e f.0.typed.0.1)
            (always-here Spares (Do n (plain.PutField j) l) f.0.spares.0),
        λ z. tt,
      );
      writes_static = λ os t c n d j l v ts cs f e w. (
        puts_static t os n d j v l f.0.holders
            (statics-some (slice_get (of_class T d).statics j) (need p T (of_unit T c.unit) l []) f.0.typed.0.0.fits.0)
            (always-here Spares (Do n (plain.PutStatic d j) l) f.0.spares.0),
        λ z. tt,
      );
      makes_plain = λ os t c n l cs f. (appends t os (fresh_object ∷ []), λ z. tt);
      makes = λ os t c n d a l info cs f less e w. (appends t os _, λ z. tt);
      constructs = λ os t c n d a l info u code cs f less e w x. (appends t os _, λ z. tt);
      makes_lost = λ os t c n d a l info u cs f e w x. (appends t os _, λ z. tt);
      calls = λ os t c n m a l r d u code cs f less e w x y z. tt;
      calls_static = λ os t c n d m a l u code cs f less x y z. tt;
      starts_none = λ os t c n l ts cs f e z. tt;
      starts = λ os t c n l r d u code ts cs f e w x y. (λ z. tt, λ s a z. tt);
      yes = λ os t c n a b l ts cs f e z. tt;
      no = λ os t c n a b l ts cs f e z. tt;
      turns = λ os t c n x b l cs f z. tt;
      enters = λ os t c n b l r ts o cs f e w x. (monitors t os r (entered t) (λ y. refl) (λ y. refl), λ z. tt);
      enters_class = λ os t c n d b l o cs f w x. (monitors t os d (entered t) (λ y. refl) (λ y. refl), λ z. tt);
      exits = λ os t c n r l cs f. (monitors t os r exited (λ y. refl) (λ y. refl), λ z. tt);
      returns = λ os t c n l cs f z. tt;
      returns_value = λ os t c n l v ts cs f e z. tt;
      done = λ os t c d cs f z. tt;
      done_last = λ os t c f z. tt;
      gives_up = λ os t v c r l cs f e. (monitors t os r exited (λ y. refl) (λ y. refl), λ z. tt);
      leaves = λ os t v c d cs f e z. tt;
      leaves_last = λ os t v c f e z. tt;
      unwinds = λ os t c r l cs f e. (monitors t os r exited (λ y. refl) (λ y. refl), λ z. tt);
      drops = λ os t c d cs f e z. tt;
      drops_last = λ os t c f e z. tt;
    }

    units-spare : UnitsHave Spared p
    units-spare u code e = spared u code e

    abbrev AllSpare : Config → Type 0
    AllSpare c = EveryCall (Has Spared) c.threads

    known-of : (c : Config) → ConfigFits p T c → AllSpare c → (t : ℕ)
        → Known_thread c.objects t (or_over (slice_get c.threads t)).mode (or_over (slice_get c.threads t)).calls
    known-of c w s t = record {
      typed = threads-each (λ (x : Thread). ThreadFits p T c.objects x) c.threads t tt w.threads;
      holders = w.shaped.holders;
      spares = threads-each (λ (x : Thread). Each (Has Spared) x.calls) c.threads t tt s;
    }

    spare-step : (c : Config) (t : ℕ) → AllSpare c → AllSpare (step p c t)
    spare-step c t s = step-has Spared (λ u. always-closed Spares) p units-spare c t s

    spare-run : (c : Config) (schedule : List ℕ) → AllSpare c → AllSpare (run p c schedule)
    spare-run c [] s = s
    spare-run c (t ∷ schedule) s = spare-run (step p c t) schedule (spare-step c t s)

    field-run : (c : Config) (more : List ℕ) → ConfigFits p T c → AllSpare c → (r : ℕ) (v : Value) → kind_at c r ≡ Some k → field_at c.objects r i ≡ Some v
        → field_at (run p c more).objects r i ≡ Some v
    field-run c [] w s r v e g = g
    field-run c (t ∷ more) w s r v e g =
        let next = step-allowed p Known_thread (λ os m z cs. Unit {0}) Stays stepwise c t (known-of c w s) (λ q. tt) r v e g in
        field-run (step p c t) more (step-fits p T c t w) (spare-step c t s) r v next.0 next.1

    pub field-stays : (mains schedule more : List ℕ) → Each (λ c. has p.mains c ≡ true) mains → (r : ℕ) (v : Value)
        → kind_at (run p (begin p mains) schedule) r ≡ Some k → field_at (run p (begin p mains) schedule).objects r i ≡ Some v
        → field_at (run p (run p (begin p mains) schedule) more).objects r i ≡ Some v
    field-stays mains schedule more h r v e g =
        field-run (run p (begin p mains) schedule) more (run-fits p T (begin p mains) schedule (begin-fits p T program mains h))
        (spare-run (begin p mains) schedule (begin-has Spared (λ u. always-closed Spares) p units-spare mains)) r v e g
