-- The temporaries of calls come from where is known.
use Rattle.std.proofs.Common.{◌≡◌, ℕ, zero, suc, ◌+◌, ◌==◌, ◌||◌, ◌&&◌, not, ⊎_elim, Bool, true, false, if◌then◌else◌, List, [], ◌∷◌, ◌++◌, Option, Some, None, length, slice_get, slice_set, take, drop, reverse, refl, sym, ap, ◌∙◌, subst, arith, length-append, length-drop}
use Rattle.std.specs.Option.{option_to_list}
use Rattle.std.proofs.lemmas.Bool.Decides.{eqb_tells}
use Rattle.std.proofs.lemmas.List.{length-reverse}
use Rattle.core_model.specs.Code.{Code, Done, Do, Exit}
use Rattle.core_model.specs.Objects.{field_at}
use Rattle.core_model.specs.Operators.{operated, negated}
use Rattle.core_model.specs.Units.{unit_number, call_with}
use Rattle.core_model.specs.Begin.{begin}
use Rattle.core_model.specs.Step.{given, with_given, run}
use Rattle.core_model.specs.declared.program.TheConstants.{NEW, RUN}
use Rattle.core_model.specs.declared.instr.Known.{Known}
use Rattle.core_model.specs.declared.instr.Known.TheVariants as known
use Rattle.core_model.specs.declared.instr.Note.{Note}
use Rattle.core_model.specs.declared.instr.Op.{Op}
use Rattle.core_model.specs.declared.instr.Plain.{Plain}
use Rattle.core_model.specs.declared.instr.Plain.TheVariants as plain
use Rattle.core_model.specs.declared.program.Program.{Program}
use Rattle.core_model.specs.declared.program.UnitCode.{UnitCode}
use Rattle.core_model.specs.declared.config.Call.{Call}
use Rattle.core_model.specs.declared.config.Config.{Config}
use Rattle.core_model.specs.declared.config.Thread.{Thread}
use Rattle.core_model.specs.declared.config.Gives.{Gives}
use Rattle.core_model.specs.declared.config.Gives.TheVariants.{Own, Object}
use Rattle.core_model.specs.declared.config.Mode.{Mode}
use Rattle.core_model.specs.declared.config.Mode.TheVariants as mode
use Rattle.core_model.specs.declared.object.Obj.{Obj}
use Rattle.core_model.specs.declared.value.Value.{Value}
use Rattle.core_model.specs.declared.value.Value.TheVariants as value
use Rattle.core_laws.specs.Places.{Always, Each}
use Rattle.core_laws.proofs.Owners.{get-other}
use Rattle.core_laws.proofs.Always.{always-closed, always-here}
use Rattle.core_laws.proofs.Temps.{IsTemporary, temps_after, pushed, dropped, field_temps, keep_temps, op_temps, neg_temps, not_temps}
use Rattle.core_laws.proofs.Stepping.{or_over, IsStepwise, found, always, threads-each}
use Rattle.core_types.specs.Types.{Ty, RunnableType, Types, of_unit, args_of, is_instance, has}
use Rattle.core_types.specs.Belonging.{AllBelong}
use Rattle.core_types.specs.Slots.{Use, Goes, Leaves, Wrong, need_of, Suiting, UseSuits, FitsBy}
use Rattle.core_types.specs.Uses.{called, called_on, called_static, unless_new, of_call, use_of}
use Rattle.core_types.specs.Need.{need, AllSuit, UseFits}
use Rattle.core_types.specs.Paths.{true_on_top}
use Rattle.core_types.specs.Programs.{Returns, ProgramFits}
use Rattle.core_types.specs.Configs.{Awaits, ResultFits, CallsFit, ThreadFits, ConfigFits}
use Rattle.core_types.specs.Origins.{Origin, OriginSuits, Operands, first_of, operands_of, unknown, gives_of, takes_of, origin_use, by_origin, origins, asks, is_apart, OriginsFit, HasOrigin, HaveOrigins}
use Rattle.core_types.proofs.Codes.{need_by-append, fits_by-append, need_by-turn, fits_by-turn}
use Rattle.core_types.proofs.Heaps.{some-is}
use Rattle.core_types.proofs.Numbers.{member-at}
use Rattle.core_types.proofs.Calls.{this-is}
use Rattle.core_types.proofs.Widening.{all-long}
use Rattle.core_types.proofs.Wholes.{begin-fits, step-fits}

-- ---- lists of origins

operands-long : (n : ℕ) (os : List Origin) → length (operands_of n os) ≡ n
operands-long zero os = refl
operands-long (suc n) [] = ap suc (operands-long n [])
operands-long (suc n) (o ∷ os) = ap suc (operands-long n os)

taken-long : (n : ℕ) (os : List Origin) → length (reverse (operands_of n os)) ≡ n
taken-long n os = length-reverse (operands_of n os) ∙ operands-long n os

unknown-same : (xs ys : List Ty) → length xs ≡ length ys → unknown xs ≡ unknown ys
unknown-same [] [] e = refl
unknown-same [] (y ∷ ys) e = absurd (omega (arith, e))
unknown-same (x ∷ xs) [] e = absurd (omega (arith, e))
unknown-same (x ∷ xs) (y ∷ ys) e = ap (λ (os : List Origin). None ∷ os) (unknown-same xs ys (omega (arith, e)))

has-suits : (ls : List Value) (v : Value) (g n : Origin) → HasOrigin ls v g → OriginSuits g n → HasOrigin ls v n
has-suits ls v g None h s = tt
has-suits ls v g (Some i) h s = subst (HasOrigin ls v) s h

drop-origins : (ls ts : List Value) (xs ys : List Origin) → HaveOrigins ls ts (xs ++ ys) → HaveOrigins ls (drop (length xs) ts) ys
drop-origins ls ts [] ys h = h
drop-origins ls [] (x ∷ xs) ys h = absurd h
drop-origins ls (v ∷ ts) (x ∷ xs) ys h = drop-origins ls ts xs ys h.1

drop-taken : (ls ts : List Value) (n : ℕ) (os ys : List Origin) → HaveOrigins ls ts (reverse (operands_of n os) ++ ys) → HaveOrigins ls (drop n ts) ys
drop-taken ls ts n os ys h =
    subst (λ (m : ℕ). HaveOrigins ls (drop m ts) ys) (taken-long n os) (drop-origins ls ts (reverse (operands_of n os)) ys h)

one-more : (ls : List Value) (v : Value) (ts : List Value) (g : Origin) (ns : List Origin) → HasOrigin ls v g → Suiting OriginSuits (g ∷ []) ns
    → HaveOrigins ls ts (drop 1 ns) → HaveOrigins ls (v ∷ ts) ns
one-more ls v ts g [] h s w = absurd s
one-more ls v ts g (n ∷ ns) h s w = (has-suits ls v g n h s.0, w)

push-any : (ls : List Value) (o : Option Value) (ts us : List Value) (g : Origin) (ns : List Origin) → ((v : Value) → o ≡ Some v → HasOrigin ls v g)
    → pushed o ts ≡ Some us → Suiting OriginSuits (g ∷ []) ns → HaveOrigins ls ts (drop 1 ns) → HaveOrigins ls us ns
push-any ls None ts us g ns h e s w = absurd (let no : ⊥ = cc in no)
push-any ls (Some v) ts us g ns h e s w = subst (λ (l : List Value). HaveOrigins ls l ns) (some-is e) (one-more ls v ts g ns (h v refl) s w)

set-origins : (ls ts : List Value) (os : List Origin) (i : ℕ) (v : Value) → asks i os ≡ false → HaveOrigins ls ts os → HaveOrigins (slice_set ls i v) ts os
set-origins ls [] [] i v a h = tt
set-origins ls [] (o ∷ os) i v a h = absurd h
set-origins ls (x ∷ ts) [] i v a h = absurd h
set-origins ls (x ∷ ts) (None ∷ os) i v a h = (tt, set-origins ls ts os i v a h.1)
set-origins ls (x ∷ ts) (Some j ∷ os) i v a h =
    ⊎_elim (λ y. let t : (j == i) ≡ true = y.0 in absurd (let no : ⊥ = cc in no))
    (λ d. let f : (j == i) ≡ false = d.0 in
    (get-other ls i j v (λ z. d.1 (sym z)) ∙ h.0, set-origins ls ts os i v (ap (λ (b : Bool). b || asks i os) (sym f) ∙ a) h.1)) (eqb_tells j i)

not-true : (b : Bool) → not b ≡ true → b ≡ false
not-true true e = absurd (let no : ⊥ = cc in no)
not-true false e = refl

-- ---- instructions that change temporaries alone

field-origins : (ls ts us : List Value) (os : List Obj) (i : ℕ) (b : Origin) (ns : List Origin) → field_temps os i ts ≡ Some us
    → Suiting OriginSuits (None ∷ []) ns → HaveOrigins ls ts (b ∷ drop 1 ns) → HaveOrigins ls us ns
field-origins ls [] us os i b ns e s h = absurd h
field-origins ls (value.Int x ∷ ts) us os i b ns e s h = absurd (let no : ⊥ = cc in no)
field-origins ls (value.Bool x ∷ ts) us os i b ns e s h = absurd (let no : ⊥ = cc in no)
field-origins ls (value.Str x ∷ ts) us os i b ns e s h = absurd (let no : ⊥ = cc in no)
field-origins ls (value.Null ∷ ts) us os i b ns e s h = absurd (let no : ⊥ = cc in no)
field-origins ls (value.Ref r ∷ ts) us os i b ns e s h = push-any ls (field_at os r i) ts us None ns (λ v f. tt) e s h.1

keep-more : (ls : List Value) (v w : Value) (ts : List Value) (b : Origin) (ns : List Origin) → Suiting OriginSuits (None ∷ b ∷ []) ns
    → HasOrigin ls w b → HaveOrigins ls ts (drop 2 ns) → HaveOrigins ls (v ∷ w ∷ ts) ns
keep-more ls v w ts b [] s h k = absurd s
keep-more ls v w ts b (n ∷ []) s h k = absurd s.1
keep-more ls v w ts b (n ∷ m ∷ ns) s h k = (has-suits ls v None n tt s.0, (has-suits ls w b m h s.1.0, k))

keep-pushed : (ls : List Value) (o : Option Value) (w : Value) (ts us : List Value) (b : Origin) (ns : List Origin) → pushed o (w ∷ ts) ≡ Some us
    → Suiting OriginSuits (None ∷ b ∷ []) ns → HasOrigin ls w b → HaveOrigins ls ts (drop 2 ns) → HaveOrigins ls us ns
keep-pushed ls None w ts us b ns e s h k = absurd (let no : ⊥ = cc in no)
keep-pushed ls (Some v) w ts us b ns e s h k = subst (λ (l : List Value). HaveOrigins ls l ns) (some-is e) (keep-more ls v w ts b ns s h k)

keep-origins : (ls ts us : List Value) (os : List Obj) (i : ℕ) (b : Origin) (ns : List Origin) → keep_temps os i ts ≡ Some us
    → Suiting OriginSuits (None ∷ b ∷ []) ns → HaveOrigins ls ts (b ∷ drop 2 ns) → HaveOrigins ls us ns
keep-origins ls [] us os i b ns e s h = absurd h
keep-origins ls (value.Int x ∷ ts) us os i b ns e s h = absurd (let no : ⊥ = cc in no)
keep-origins ls (value.Bool x ∷ ts) us os i b ns e s h = absurd (let no : ⊥ = cc in no)
keep-origins ls (value.Str x ∷ ts) us os i b ns e s h = absurd (let no : ⊥ = cc in no)
keep-origins ls (value.Null ∷ ts) us os i b ns e s h = absurd (let no : ⊥ = cc in no)
keep-origins ls (value.Ref r ∷ ts) us os i b ns e s h = keep-pushed ls (field_at os r i) (value.Ref r) ts us b ns e s h.0 h.1

drop-one : (ls ts us : List Value) (ns : List Origin) → dropped ts ≡ Some us → HaveOrigins ls ts (None ∷ ns) → HaveOrigins ls us ns
drop-one ls [] us ns e h = absurd h
drop-one ls (v ∷ ts) us ns e h = subst (λ (l : List Value). HaveOrigins ls l ns) (some-is e) h.1

op-origins : (ls ts us : List Value) (o : Op) (ns : List Origin) → op_temps o ts ≡ Some us → Suiting OriginSuits (None ∷ []) ns
    → HaveOrigins ls ts (None ∷ None ∷ drop 1 ns) → HaveOrigins ls us ns
op-origins ls [] us o ns e s h = absurd h
op-origins ls (w ∷ []) us o ns e s h = absurd h.1
op-origins ls (w ∷ v ∷ ts) us o ns e s h = push-any ls (operated o v w) ts us None ns (λ x f. tt) e s h.1.1

neg-origins : (ls ts us : List Value) (ns : List Origin) → neg_temps ts ≡ Some us → Suiting OriginSuits (None ∷ []) ns
    → HaveOrigins ls ts (None ∷ drop 1 ns) → HaveOrigins ls us ns
neg-origins ls [] us ns e s h = absurd h
neg-origins ls (value.Int x ∷ ts) us ns e s h =
    subst (λ (l : List Value). HaveOrigins ls l ns) (some-is e) (one-more ls (value.Int (negated x)) ts None ns tt s h.1)
neg-origins ls (value.Bool x ∷ ts) us ns e s h = absurd (let no : ⊥ = cc in no)
neg-origins ls (value.Str x ∷ ts) us ns e s h = absurd (let no : ⊥ = cc in no)
neg-origins ls (value.Null ∷ ts) us ns e s h = absurd (let no : ⊥ = cc in no)
neg-origins ls (value.Ref r ∷ ts) us ns e s h = absurd (let no : ⊥ = cc in no)

not-origins : (ls ts us : List Value) (ns : List Origin) → not_temps ts ≡ Some us → Suiting OriginSuits (None ∷ []) ns
    → HaveOrigins ls ts (None ∷ drop 1 ns) → HaveOrigins ls us ns
not-origins ls [] us ns e s h = absurd h
not-origins ls (value.Int x ∷ ts) us ns e s h = absurd (let no : ⊥ = cc in no)
not-origins ls (value.Bool x ∷ ts) us ns e s h =
    subst (λ (l : List Value). HaveOrigins ls l ns) (some-is e) (one-more ls (value.Bool (not x)) ts None ns tt s h.1)
not-origins ls (value.Str x ∷ ts) us ns e s h = absurd (let no : ⊥ = cc in no)
not-origins ls (value.Null ∷ ts) us ns e s h = absurd (let no : ⊥ = cc in no)
not-origins ls (value.Ref r ∷ ts) us ns e s h = absurd (let no : ⊥ = cc in no)

temps-origins : (os : List Obj) (ls ts us : List Value) (ops : List Origin) (gives : List Ty) (i : Plain) (ns : List Origin) → IsTemporary i
    → temps_after os ls ts i ≡ Some us → UseSuits OriginSuits (origin_use ops gives i) ns → HaveOrigins ls ts (need_of (origin_use ops gives i) ns)
    → HaveOrigins ls us ns
temps-origins os ls ts us ops gives (plain.Const v) ns i e s h = subst (λ (l : List Value). HaveOrigins ls l ns) (some-is e) (one-more ls v ts None ns tt s h)
temps-origins os ls ts us ops gives (plain.Get x) ns i e s h = push-any ls (slice_get ls x) ts us (Some x) ns (λ v f. f) e s h
temps-origins os ls ts us ops gives (plain.Set x) ns i e s h = absurd i
temps-origins os ls ts us ops gives plain.Drop ns i e s h = drop-one ls ts us ns e h
temps-origins os ls ts us ops gives (plain.Field x) ns i e s h = field-origins ls ts us os x (first_of ops) ns e s h
temps-origins os ls ts us ops gives (plain.FieldKeep x) ns i e s h = keep-origins ls ts us os x (first_of ops) ns e s h
temps-origins os ls ts us ops gives (plain.PutField x) ns i e s h = absurd i
temps-origins os ls ts us ops gives (plain.Static c x) ns i e s h = push-any ls (field_at os c x) ts us None ns (λ v f. tt) e s h
temps-origins os ls ts us ops gives (plain.PutStatic c x) ns i e s h = absurd i
temps-origins os ls ts us ops gives (plain.Make c n) ns i e s h = absurd i
temps-origins os ls ts us ops gives plain.MakePlain ns i e s h = absurd i
temps-origins os ls ts us ops gives (plain.Call m n) ns i e s h = absurd i
temps-origins os ls ts us ops gives (plain.CallStatic c m n) ns i e s h = absurd i
temps-origins os ls ts us ops gives (plain.Op o) ns i e s h = op-origins ls ts us o ns e s h
temps-origins os ls ts us ops gives plain.Neg ns i e s h = neg-origins ls ts us ns e s h
temps-origins os ls ts us ops gives plain.Not ns i e s h = not-origins ls ts us ns e s h
temps-origins os ls ts us ops gives plain.Start ns i e s h = absurd i
temps-origins os ls ts us ops gives plain.Return ns i e s h = absurd i
temps-origins os ls ts us ops gives plain.ReturnValue ns i e s h = absurd i

-- ---- what calls give

abbrev goes_on_with : Use Ty → Bool
goes_on_with (Goes takes gives) = true
goes_on_with (Leaves takes) = false
goes_on_with Wrong = false

suit-long : (T : Types) (gs ns : List Ty) → AllSuit T gs ns → length (drop (length gs) ns) + length gs ≡ length ns
suit-long T [] ns h = omega arith
suit-long T (g ∷ gs) [] h = absurd h
suit-long T (g ∷ gs) (n ∷ ns) h = omega (arith, suit-long T gs ns h.1)

-- the result that the caller waits for is given by the use, where a use takes m temporaries
awaited-long : (T : Types) (os : List Obj) (m : ℕ) (r : Option Ty) (ts : List Value) (takes gives ns : List Ty) → AllSuit T gives ns → length takes ≡ m
    → AllBelong T os ts (takes ++ drop (length gives) ns) → Awaits T os Own r (drop m ts) ns → length gives ≡ length (option_to_list r)
awaited-long T os m None ts takes gives ns s e h w =
    omega (
      arith,
      e,
      suit-long T gives ns s,
      all-long T os ts (takes ++ drop (length gives) ns) h,
      length-append takes (drop (length gives) ns),
      all-long T os (drop m ts) ns w,
      length-drop m ts,
    )
awaited-long T os m (Some t) ts takes gives [] s e h w = absurd w
awaited-long T os m (Some t) ts takes gives (n ∷ ns) s e h w =
    omega (
      arith,
      e,
      suit-long T gives (n ∷ ns) s,
      all-long T os ts (takes ++ drop (length gives) (n ∷ ns)) h,
      length-append takes (drop (length gives) (n ∷ ns)),
      all-long T os (drop m ts) ns w.1,
      length-drop m ts,
    )

by-use : (T : Types) (os : List Obj) (m : ℕ) (r : Option Ty) (ts : List Value) (x : Use Ty) (ns : List Ty) → goes_on_with x ≡ true
    → length (takes_of x) ≡ m → UseFits T x ns → AllBelong T os ts (need_of x ns) → Awaits T os Own r (drop m ts) ns
    → length (gives_of x) ≡ length (option_to_list r)
by-use T os m r ts (Goes takes gives) ns g e s h w = awaited-long T os m r ts takes gives ns s e h w
by-use T os m r ts (Leaves takes) ns g e s h w = absurd (let no : ⊥ = cc in no)
by-use T os m r ts Wrong ns g e s h w = absurd s

module _ (p : Program) (T : Types) (program : ProgramFits p T) where
  abbrev Takes : ℕ → Use Ty → Type 0
  Takes m x = (goes_on_with x ≡ true) × (length (takes_of x) ≡ m)

  instance-takes : (c m a u : ℕ) (x : Bool) (l : List Ty) → unit_number p c m a ≡ Some u → is_instance (of_unit T u) ≡ x
      → UseFits T (if x then called (of_unit T u) else Wrong) l → Takes (a + 1) (if x then called (of_unit T u) else Wrong)
  instance-takes c m a u true l e i s =
      let member = member-at p T program c m a u e in
      let this = this-is c (of_unit T u).this i member.this in
      let one : length (of_unit T u).this ≡ 1 = ap length this in
      (refl, omega (arith, length-reverse (args_of (of_unit T u)), length-append (of_unit T u).this (of_unit T u).params, one, member.count))
  instance-takes c m a u false l e i s = absurd s

  number-takes : (c m a : ℕ) (o : Option ℕ) (l : List Ty) → unit_number p c m a ≡ o → UseFits T (called_on T o) l → Takes (a + 1) (called_on T o)
  number-takes c m a None l e s = absurd s
  number-takes c m a (Some u) l e s = instance-takes c m a u (is_instance (of_unit T u)) l e refl s

  named-takes : (c m a : ℕ) (new : Bool) (l : List Ty) → UseFits T (if new then Wrong else called_on T (unit_number p c m a)) l
      → Takes (a + 1) (if new then Wrong else called_on T (unit_number p c m a))
  named-takes c m a true l s = absurd s
  named-takes c m a false l s = number-takes c m a (unit_number p c m a) l refl s

  runnable-takes : (a : ℕ) (x y : Bool) (l : List Ty) → (a == 0) ≡ y → UseFits T (if x && y then Goes (RunnableType ∷ []) [] else Wrong) l
      → Takes (a + 1) (if x && y then Goes (RunnableType ∷ []) [] else Wrong)
  runnable-takes a true true l e s = (refl, ⊎_elim (λ z. omega (arith, z.1)) (λ d. absurd (let f : (a == 0) ≡ false = d.0 in let no : ⊥ = cc in no)) (eqb_tells a 0))
  runnable-takes a true false l e s = absurd s
  runnable-takes a false y l e s = absurd s

  call-takes : (k : Known) (m a : ℕ) (l : List Ty) → UseFits T (of_call p T k m a) l → Takes (a + 1) (of_call p T k m a)
  call-takes known.Nothing m a l s = runnable-takes a (m == RUN) (a == 0) l refl s
  call-takes (known.Class c) m a l s = named-takes c m a (m == NEW) l s
  call-takes (known.Monitor x) m a l s = absurd s

  static-of : (u : ℕ) (x : Bool) (l : List Ty) → UseFits T (if x then Wrong else called (of_unit T u)) l
      → gives_of (if x then Wrong else called (of_unit T u)) ≡ option_to_list (of_unit T u).result
  static-of u true l s = absurd s
  static-of u false l s = refl

  static-gives : (o : Option ℕ) (u : ℕ) (new : Bool) (l : List Ty) → o ≡ Some u → UseFits T (if new then Wrong else called_static T o) l
      → gives_of (if new then Wrong else called_static T o) ≡ option_to_list (of_unit T u).result
  static-gives o u true l e s = absurd s
  static-gives None u false l e s = absurd s
  static-gives (Some v) u false l e s =
      let same : v ≡ u = some-is e in
      subst (λ (w : ℕ). gives_of (called_static T (Some v)) ≡ option_to_list (of_unit T w).result) same (static-of v (is_instance (of_unit T v)) l s)

-- ---- threads

module _ (p : Program) (T : Types) (O : Operands) (program : ProgramFits p T) (told : OriginsFit p T O) where
  abbrev Apart : ℕ → Code → Type 0
  Apart u k = is_apart p T O u k ≡ true

  -- what is left of a call of unit u fits the origins
  record Placed (u : ℕ) (k : Code) : Type 0 where
    fits : FitsBy OriginSuits (by_origin p T O u) k []
    apart : Always (Apart u) k

  record Top (c : Call) : Type 0 where
    placed : Placed c.unit c.rest
    temps : HaveOrigins c.locals c.temps (origins p T O c.unit c.rest)

  abbrev results : ℕ → Gives → List Origin
  results u Own = unknown (option_to_list (of_unit T u).result)
  results u (Object r) = None ∷ []

  -- it waits for these
  record Waits (gs : List Origin) (c : Call) : Type 0 where
    placed : Placed c.unit c.rest
    suits : Suiting OriginSuits gs (origins p T O c.unit c.rest)
    temps : HaveOrigins c.locals c.temps (drop (length gs) (origins p T O c.unit c.rest))

  abbrev Waiting : List Origin → List Call → Type 0
  Waiting gs [] = Unit {0}
  Waiting gs (c ∷ cs) = Waits gs c × Waiting (results c.unit c.gives) cs

  abbrev Comes : Mode → List Call → Type 0
  Comes mode.Running [] = Unit {0}
  Comes mode.Running (c ∷ cs) = Top c × Waiting (results c.unit c.gives) cs
  Comes (mode.Leaving v) [] = Unit {0}
  Comes (mode.Leaving v) (c ∷ cs) = Waiting (results c.unit c.gives) cs
  Comes mode.Ending cs = Unit {0}
  Comes mode.Over cs = Unit {0}

  begun-top : (u : ℕ) (code : UnitCode) (args : List Value) (g : Gives) → slice_get p.units u ≡ Some code → Top (call_with u code args g)
  begun-top u code args g e = record {
    placed = record { fits = told.fits u code e; apart = told.apart u code e };
    temps = rw (told.needs u code e) tt;
  }

  next : (u : ℕ) (n : Note) (i : Plain) (k : Code) → Placed u (Do n i k) → Placed u k
  next u n i k h = record { fits = h.fits.1; apart = (always-closed (Apart u)).plain n i k h.apart }

  -- a call waits for what a use gives
  waits : (c : Call) (n : Note) (i : Plain) (k : Code) (m : ℕ) (os gs : List Origin) → Top (record c { rest = Do n i k })
      → UseSuits OriginSuits (Goes (reverse (operands_of m os)) gs) (origins p T O c.unit k)
      → HaveOrigins c.locals c.temps (need_of (Goes (reverse (operands_of m os)) gs) (origins p T O c.unit k))
      → Waits gs (record c { rest = k; temps = drop m c.temps })
  waits c n i k m os gs g s h = record {
    placed = next c.unit n i k g.placed;
    suits = s;
    temps = drop-taken c.locals c.temps m os (drop (length gs) (origins p T O c.unit k)) h;
  }

  back-none : (d : Call) (os : List Obj) (r : Option Ty) (v : Option Value) → ResultFits T os r v → Waits (unknown (option_to_list r)) d → Top (with_given d v)
  back-none d os None None h w = record { placed = w.placed; temps = w.temps }
  back-none d os None (Some v) h w = absurd h
  back-none d os (Some t) None h w = absurd h
  back-none d os (Some t) (Some v) h w =
      record { placed = w.placed; temps = one-more d.locals v d.temps None (origins p T O d.unit d.rest) tt w.suits w.temps }

  back : (u : ℕ) (g : Gives) (d : Call) (os : List Obj) (v : Option Value) → ResultFits T os (of_unit T u).result v → Waits (results u g) d
      → Top (with_given d (given g v))
  back u Own d os v h w = back-none d os (of_unit T u).result v h w
  back u (Object r) d os v h w =
      record { placed = w.placed; temps = one-more d.locals (value.Ref r) d.temps None (origins p T O d.unit d.rest) tt w.suits w.temps }

  -- a value that is pushed changes nothing for those beneath
  resume : (d : Call) (o : Option Value) (cs : List Call) → Waiting (results d.unit d.gives) cs
      → Waiting (results (with_given d o).unit (with_given d o).gives) cs
  resume d None cs h = h
  resume d (Some v) cs h = h

  done-result : (os : List Obj) (r : Option Ty) (known : Bool) → Returns r known Done → ResultFits T os r None
  done-result os None known h = tt
  done-result os (Some t) known h = absurd (let no : ⊥ = cc in no)

  temps-as : (c : Call) (ts : List Value) (os : List Origin) → c.temps ≡ ts → HaveOrigins c.locals c.temps os → HaveOrigins c.locals ts os
  temps-as c ts os e h = subst (λ (l : List Value). HaveOrigins c.locals l os) e h

  called-waits : (os : List Obj) (c : Call) (n : Note) (m a : ℕ) (k : Code) (u : ℕ) → Top (record c { rest = Do n (plain.Call m a) k })
      → UseFits T (use_of p T (of_unit T c.unit) n (plain.Call m a)) (need p T (of_unit T c.unit) k [])
      → AllBelong T os c.temps (need p T (of_unit T c.unit) (Do n (plain.Call m a) k) [])
      → Awaits T os Own (of_unit T u).result (drop (a + 1) c.temps) (need p T (of_unit T c.unit) k [])
      → Waits (unknown (option_to_list (of_unit T u).result)) (record c { rest = k; temps = drop (a + 1) c.temps })
  called-waits os c n m a k u g s h w =
      let x : Use Ty = of_call p T n.known m a in
      let shape = call-takes p T program n.known m a (need p T (of_unit T c.unit) k []) s in
      let long = by-use T os (a + 1) (of_unit T u).result c.temps x (need p T (of_unit T c.unit) k []) shape.0 shape.1 s h w in
      subst (λ (gs : List Origin). Waits gs (record c { rest = k; temps = drop (a + 1) c.temps }))
      (unknown-same (gives_of x) (option_to_list (of_unit T u).result) long)
      (waits c n (plain.Call m a) k (a + 1) (O c.unit n.place) (unknown (gives_of x)) g g.placed.fits.0 g.temps)

  static-waits : (c : Call) (n : Note) (d m a : ℕ) (k : Code) (u : ℕ) → Top (record c { rest = Do n (plain.CallStatic d m a) k })
      → UseFits T (use_of p T (of_unit T c.unit) n (plain.CallStatic d m a)) (need p T (of_unit T c.unit) k []) → unit_number p d m a ≡ Some u
      → Waits (unknown (option_to_list (of_unit T u).result)) (record c { rest = k; temps = drop a c.temps })
  static-waits c n d m a k u g s e =
      subst (λ (gs : List Ty). Waits (unknown gs) (record c { rest = k; temps = drop a c.temps }))
      (static-gives p T program (unit_number p d m a) u (m == NEW) (need p T (of_unit T c.unit) k []) e s)
      (waits c n (plain.CallStatic d m a) k a (O c.unit n.place) (unknown (gives_of (unless_new m (called_static T (unit_number p d m a))))) g g.placed.fits.0 g.temps)

  abbrev Typed : List Obj → ℕ → Mode → List Call → Type 0
  Typed os t m cs = CallsFit p T os m cs

  stepwise : IsStepwise p Typed (λ os t m cs. Comes m cs) (λ s os ns. Unit {0})
  stepwise = record {
    same = λ t os. tt;
    stays = λ s t os ns m cs ne r g z. g;
    begun = λ t d u code e w z. (begun-top u code (value.Null ∷ []) Own w, tt);
    begun_over = λ t z. tt;
    faults = λ os t c k cs f may z. tt;
    pushes = λ os t c n i k ts cs f h e z. (
      record {
        placed = next c.unit n i k f.1.0.placed;
        temps = temps-origins os c.locals c.temps ts (O c.unit n.place) (gives_of (use_of p T (of_unit T c.unit) n i)) i (origins p T O c.unit k) h e
            f.1.0.placed.fits.0 f.1.0.temps;
      },
      f.1.1,
    );
    sets = λ os t c n i k v ts cs f e l z. (
      record {
        placed = next c.unit n (plain.Set i) k f.1.0.placed;
        temps = set-origins c.locals ts (origins p T O c.unit k) i v
            (not-true (asks i (origins p T O c.unit k)) (always-here (Apart c.unit) (Do n (plain.Set i) k) f.1.0.placed.apart))
            (temps-as c (v ∷ ts) _ e f.1.0.temps).1;
      },
      f.1.1,
    );
    writes = λ os t c n i k v r ts cs f e w. (
      tt,
      λ z. (
        record {
          placed = next c.unit n (plain.PutField i) k f.1.0.placed;
          temps = (temps-as c (v ∷ value.Ref r ∷ ts) _ e f.1.0.temps).1.1;
        },
        f.1.1,
      ),
    );
    writes_static = λ os t c n d i k v ts cs f e w. (
      tt,
      λ z. (
        record {
          placed = next c.unit n (plain.PutStatic d i) k f.1.0.placed;
          temps = (temps-as c (v ∷ ts) _ e f.1.0.temps).1;
        },
        f.1.1,
      ),
    );
    makes_plain = λ os t c n k cs f. (
      tt,
      λ z. (
        record {
          placed = next c.unit n plain.MakePlain k f.1.0.placed;
          temps = one-more c.locals (value.Ref (length os)) c.temps None (origins p T O c.unit k) tt f.1.0.placed.fits.0 f.1.0.temps;
        },
        f.1.1,
      ),
    );
    makes = λ os t c n d a k info cs f l e w. (
      tt,
      λ z. (
        record {
          placed = next c.unit n (plain.Make d a) k f.1.0.placed;
          temps = one-more c.locals (value.Ref (length os)) (drop a c.temps) None (origins p T O c.unit k) tt f.1.0.placed.fits.0
              (drop-taken c.locals c.temps a (O c.unit n.place) (drop 1 (origins p T O c.unit k)) f.1.0.temps);
        },
        f.1.1,
      ),
    );
    constructs = λ os t c n d a k info u code cs f l e w x. (
      tt,
      λ z. (
        begun-top u code (value.Ref (length os) ∷ reverse (take a c.temps)) (Object (length os)) x,
        (waits c n (plain.Make d a) k a (O c.unit n.place) (None ∷ []) f.1.0 f.1.0.placed.fits.0 f.1.0.temps, f.1.1),
      ),
    );
    makes_lost = λ os t c n d a k info u cs f e w x. (tt, λ z. tt);
    calls = λ os t c n m a k r d u code cs f l e w x y z.
        (begun-top u code (reverse (take (a + 1) c.temps)) Own y, (called-waits os c n m a k u f.1.0 f.0.0.0.fits.0 f.0.0.1 z.1.1, f.1.1));
    calls_static = λ os t c n d m a k u code cs f l x y z.
        (begun-top u code (reverse (take a c.temps)) Own y, (static-waits c n d m a k u f.1.0 f.0.0.0.fits.0 x, f.1.1));
    starts_none = λ os t c n k ts cs f e z. (
      record {
        placed = next c.unit n plain.Start k f.1.0.placed;
        temps = (temps-as c (value.Null ∷ ts) _ e f.1.0.temps).1;
      },
      f.1.1,
    );
    starts = λ os t c n k r d u code ts cs f e w x y. (
      λ z. (
        record {
          placed = next c.unit n plain.Start k f.1.0.placed;
          temps = (temps-as c (value.Ref r ∷ ts) _ e f.1.0.temps).1;
        },
        f.1.1,
      ),
      λ s a z. (begun-top u code (value.Ref r ∷ []) Own y, tt),
    );
    yes = λ os t c n a b k ts cs f e z. (
      record {
        placed = record {
          fits = fits_by-append OriginSuits (by_origin p T O c.unit) a k [] f.1.0.placed.fits.1 f.1.0.placed.fits.3;
          apart = (always-closed (Apart c.unit)).yes n a b k f.1.0.placed.apart;
        };
        temps = rw (need_by-append OriginSuits (by_origin p T O c.unit) a k []) (temps-as c (value.Bool true ∷ ts) _ e f.1.0.temps).1;
      },
      f.1.1,
    );
    no = λ os t c n a b k ts cs f e z. (
      record {
        placed = record {
          fits = fits_by-append OriginSuits (by_origin p T O c.unit) b k [] f.1.0.placed.fits.2 f.1.0.placed.fits.3;
          apart = (always-closed (Apart c.unit)).no n a b k f.1.0.placed.apart;
        };
        temps = rw (need_by-append OriginSuits (by_origin p T O c.unit) b k [])
            (subst (λ (l : List Origin). HaveOrigins c.locals ts l) f.1.0.placed.fits.0 (temps-as c (value.Bool false ∷ ts) _ e f.1.0.temps).1);
      },
      f.1.1,
    );
    turns = λ os t c n x b k cs f z. (
      record {
        placed = record {
          fits = fits_by-turn OriginSuits (by_origin p T O c.unit) n x b k [] f.1.0.placed.fits;
          apart = (always-closed (Apart c.unit)).turn n x b k f.1.0.placed.apart;
        };
        temps = rw (need_by-turn OriginSuits (by_origin p T O c.unit) n x b k [] f.1.0.placed.fits) f.1.0.temps;
      },
      f.1.1,
    );
    enters = λ os t c n b k r ts o cs f e w x. (
      tt,
      λ z. (
        record {
          placed = record {
            fits = fits_by-append OriginSuits (by_origin p T O c.unit) b (Exit n r k) [] f.1.0.placed.fits.0 f.1.0.placed.fits.1;
            apart = (always-closed (Apart c.unit)).enter n b k r f.1.0.placed.apart;
          };
          temps = rw (need_by-append OriginSuits (by_origin p T O c.unit) b (Exit n r k) []) (temps-as c (value.Ref r ∷ ts) _ e f.1.0.temps).1;
        },
        f.1.1,
      ),
    );
    enters_class = λ os t c n d b k o cs f w x. (
      tt,
      λ z. (
        record {
          placed = record {
            fits = fits_by-append OriginSuits (by_origin p T O c.unit) b (Exit n d k) [] f.1.0.placed.fits.1 f.1.0.placed.fits.2;
            apart = (always-closed (Apart c.unit)).enter_class n d b k f.1.0.placed.apart;
          };
          temps = rw (need_by-append OriginSuits (by_origin p T O c.unit) b (Exit n d k) []) f.1.0.temps;
        },
        f.1.1,
      ),
    );
    exits = λ os t c n r k cs f. (
      tt,
      λ z. (
        record {
          placed = record { fits = f.1.0.placed.fits; apart = (always-closed (Apart c.unit)).exit n r k f.1.0.placed.apart };
          temps = f.1.0.temps;
        },
        f.1.1,
      ),
    );
    returns = λ os t c n k cs f z. f.1.1;
    returns_value = λ os t c n k v ts cs f e z. f.1.1;
    done = λ os t c d cs f z.
        (back c.unit c.gives d os None (done-result os (of_unit T c.unit).result (true_on_top c.temps) f.0.0.0.returns) f.1.1.0, resume d (given c.gives None) cs f.1.1.1);
    done_last = λ os t c f z. tt;
    gives_up = λ os t v c r k cs f e. (tt, λ z. f.1);
    leaves = λ os t v c d cs f e z. (back c.unit c.gives d os v f.0.0 f.1.0, resume d (given c.gives v) cs f.1.1);
    leaves_last = λ os t v c f e z. tt;
    unwinds = λ os t c r k cs f e. (tt, λ z. tt);
    drops = λ os t c d cs f e z. tt;
    drops_last = λ os t c f e z. tt;
  }

  typed : (c : Config) → ConfigFits p T c → (t : ℕ) → Typed c.objects t (or_over (slice_get c.threads t)).mode (or_over (slice_get c.threads t)).calls
  typed c w t = threads-each (λ (x : Thread). ThreadFits p T c.objects x) c.threads t tt w.threads

  pub come : (mains schedule : List ℕ) → Each (λ c. has p.mains c ≡ true) mains → (t : ℕ) (call : Call) (below : List Call)
      → slice_get (run p (begin p mains) schedule).threads t ≡ Some (record { calls = call ∷ below; mode = mode.Running })
      → HaveOrigins call.locals call.temps (origins p T O call.unit call.rest)
  come mains schedule h t call below there =
      let G : List Obj → ℕ → Mode → List Call → Type 0 = λ os s m cs. Comes m cs in
      let R : ℕ → List Obj → List Obj → Type 0 = λ s os ns. Unit {0} in
      (found p Typed G R stepwise (run p (begin p mains) schedule) t (record { calls = call ∷ below; mode = mode.Running }) there
      (always p Typed G R stepwise (ConfigFits p T) (step-fits p T) typed mains schedule (begin-fits p T program mains h))).0.temps

origin-at : (ls ts : List Value) (os : List Origin) (j x : ℕ) (v : Value) → HaveOrigins ls ts os → slice_get os j ≡ Some (Some x) → slice_get ts j ≡ Some v
    → slice_get ls x ≡ Some v
origin-at ls [] [] j x v h e f = absurd (let no : ⊥ = cc in no)
origin-at ls [] (o ∷ os) j x v h e f = absurd h
origin-at ls (w ∷ ts) [] j x v h e f = absurd h
origin-at ls (w ∷ ts) (o ∷ os) zero x v h e f =
    let is : o ≡ Some x = some-is e in
    let same : w ≡ v = some-is f in
    subst (λ (y : Value). slice_get ls x ≡ Some y) same (subst (HasOrigin ls w) is h.0)
origin-at ls (w ∷ ts) (o ∷ os) (suc j) x v h e f = origin-at ls ts os j x v h.1 e f

front-at : (xs ys : List Origin) (j : ℕ) (o : Origin) → slice_get xs j ≡ Some o → slice_get (xs ++ ys) j ≡ Some o
front-at [] ys j o e = absurd (let no : ⊥ = cc in no)
front-at (x ∷ xs) ys zero o e = e
front-at (x ∷ xs) ys (suc j) o e = front-at xs ys j o e

need-at : (x : Use Origin) (ns : List Origin) (j : ℕ) (o : Origin) → slice_get (takes_of x) j ≡ Some o → slice_get (need_of x ns) j ≡ Some o
need-at (Goes takes gives) ns j o e = front-at takes (drop (length gives) ns) j o e
need-at (Leaves takes) ns j o e = e
need-at Wrong ns j o e = absurd (let no : ⊥ = cc in no)

pub taken-from : (p : Program) (T : Types) (O : Operands) → ProgramFits p T → OriginsFit p T O → (mains schedule : List ℕ)
    → Each (λ c. has p.mains c ≡ true) mains → (t : ℕ) (call : Call) (below : List Call)
    → slice_get (run p (begin p mains) schedule).threads t ≡ Some (record { calls = call ∷ below; mode = mode.Running })
    → (n : Note) (i : Plain) (k : Code) (j x : ℕ) (v : Value) → call.rest ≡ Do n i k
    → slice_get (takes_of (origin_use (O call.unit n.place) (gives_of (use_of p T (of_unit T call.unit) n i)) i)) j ≡ Some (Some x)
    → slice_get call.temps j ≡ Some v → slice_get call.locals x ≡ Some v
taken-from p T O program told mains schedule h t call below there n i k j x v rest takes temps =
    let all = come p T O program told mains schedule h t call below there in
    let here : HaveOrigins call.locals call.temps (origins p T O call.unit (Do n i k)) =
    subst (λ (l : Code). HaveOrigins call.locals call.temps (origins p T O call.unit l)) rest all in
    origin-at call.locals call.temps (origins p T O call.unit (Do n i k)) j x v here
    (need-at (origin_use (O call.unit n.place) (gives_of (use_of p T (of_unit T call.unit) n i)) i) (origins p T O call.unit k) j (Some x) takes) temps
