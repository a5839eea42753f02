-- Marks name what their locals hold, and the base of a guarded read is what its local holds.
use Rattle.std.proofs.Common.{◌≡◌, take, reverse, replicate, length, ◌++◌, ◌-◌, ℕ, zero, suc, ◌+◌, ◌<◌, ◌==◌, ◌&&◌, ◌||◌, not, ⊎_elim, Bool, true, false, List, [], ◌∷◌, Option, Some, None, if◌then◌else◌, slice_get, slice_set, refl, sym, ap, ◌∙◌, subst, arith}
use Rattle.std.proofs.lemmas.Bool.Decides.{eqb_tells}
use Rattle.core_model.specs.Code.{Code, Done, Do, If, While, Enter, EnterClass, Exit, ◌⧺◌}
use Rattle.core_model.specs.Units.{unit_number, call_with}
use Rattle.core_model.specs.Begin.{begin}
use Rattle.core_model.specs.Step.{run}
use Rattle.core_model.specs.declared.program.TheConstants.{NEW, MAIN, RUN}
use Rattle.core_model.specs.declared.instr.Note.{Note}
use Rattle.core_model.specs.declared.instr.Plain.{Plain}
use Rattle.core_model.specs.declared.instr.Plain.TheVariants as plain
use Rattle.core_model.specs.declared.program.Program.{Program}
use Rattle.core_model.specs.declared.program.UnitCode.{UnitCode}
use Rattle.core_model.specs.declared.config.Call.{Call}
use Rattle.core_model.specs.declared.config.Config.{Config}
use Rattle.core_model.specs.declared.config.Gives.{Gives}
use Rattle.core_model.specs.declared.config.Gives.TheVariants.{Own, Object}
use Rattle.core_model.specs.declared.config.Mode.TheVariants as mode
use Rattle.core_model.specs.declared.value.Value.{Value}
use Rattle.core_model.specs.declared.value.Value.TheVariants as value
use Rattle.core_laws.specs.Places.{again, Always}
use Rattle.core_laws.specs.Marks.{Unmarked, Spined, HasNoMarks, marks_in, marks_in_calls, marks_by, entries_of, owner_at, Counted}
use Rattle.core_laws.proofs.Owners.{get-other}
use Rattle.core_laws.proofs.Spines.{unmarked-spined, spined-closed}
use Rattle.core_laws.proofs.Always.{always-closed, always-here}
use Rattle.core_laws.proofs.Marked.{owned-by, counted-whole}
use Rattle.core_laws.specs.Guards.{Promised, Dispatched, called_well, known_local, is_at, claims, based_by, based, follows, is_none, guarded, sound}
use Rattle.core_laws.proofs.Stacks.{IsPlain, IsClosedCall, calls-carried}

-- ---- booleans

both-left : (a b : Bool) → (a && b) ≡ true → a ≡ true
both-left true b e = refl
both-left false b e = e

both-right : (a b : Bool) → (a && b) ≡ true → b ≡ true
both-right true b e = e
both-right false b e = absurd (let no : ⊥ = cc in no)

pub not-true : (a : Bool) → not a ≡ true → a ≡ false
not-true true e = absurd (let no : ⊥ = cc in no)
not-true false e = refl

abbrev mark : ℕ → ℕ → ℕ
mark r q = if r == q then 1 else 0

same-one : (r : ℕ) → mark r r ≡ 1
same-one r = ⊎_elim (λ y. rw y.0 refl) (λ d. absurd (d.1 refl)) (eqb_tells r r)

ref-is : (r q : ℕ) → Some (value.Ref r) ≡ Some (value.Ref q) → r ≡ q
ref-is r q e = cc

is-zero : (i : ℕ) → (i == 0) ≡ true → i ≡ 0
is-zero i e = ⊎_elim (λ y. y.1) (λ d. absurd (let f : (i == 0) ≡ false = d.0 in let no : ⊥ = cc in no)) (eqb_tells i 0)

pub zero-eq : (i : ℕ) → i ≡ 0 → (i == 0) ≡ true
zero-eq i e = ⊎_elim (λ y. y.0) (λ d. absurd (d.1 e)) (eqb_tells i 0)

-- ---- marks and locals

-- the mark's object is what the local holds that named it
abbrev Named : List Value → ℕ → Option ℕ → Type 0
Named ls r None = Unit {0}
Named ls r (Some i) = slice_get ls i ≡ Some (value.Ref r)

abbrev Claimed : List Value → Code → Type 0
Claimed ls Done = Unit {0}
Claimed ls (Do n p k) = Claimed ls k
Claimed ls (If n a b k) = Claimed ls k
Claimed ls (While n c b k) = Claimed ls k
Claimed ls (Enter n b k) = Claimed ls k
Claimed ls (EnterClass n c b k) = Claimed ls k
Claimed ls (Exit n r k) = Named ls r (known_local n.known) × Claimed ls k

claimed-unmarked : (ls : List Value) (k : Code) → Unmarked k → Claimed ls k
claimed-unmarked ls Done h = tt
claimed-unmarked ls (Do n p k) h = claimed-unmarked ls k h
claimed-unmarked ls (If n a b k) h = claimed-unmarked ls k h.2
claimed-unmarked ls (While n c b k) h = claimed-unmarked ls k h.2
claimed-unmarked ls (Enter n b k) h = claimed-unmarked ls k h.1
claimed-unmarked ls (EnterClass n c b k) h = claimed-unmarked ls k h.1
claimed-unmarked ls (Exit n r k) h = absurd h

claimed-append : (ls : List Value) (a k : Code) → Unmarked a → Claimed ls k → Claimed ls (a ⧺ k)
claimed-append ls Done k h g = g
claimed-append ls (Do n p s) k h g = claimed-append ls s k h g
claimed-append ls (If n a b s) k h g = claimed-append ls s k h.2 g
claimed-append ls (While n c b s) k h g = claimed-append ls s k h.2 g
claimed-append ls (Enter n b s) k h g = claimed-append ls s k h.1 g
claimed-append ls (EnterClass n c b s) k h g = claimed-append ls s k h.1 g
claimed-append ls (Exit n r s) k h g = absurd h

named-set : (ls : List Value) (i : ℕ) (v : Value) (r : ℕ) (o : Option ℕ) → is_at i o ≡ false → Named ls r o → Named (slice_set ls i v) r o
named-set ls i v r None e h = tt
named-set ls i v r (Some j) e h =
    ⊎_elim (λ y. absurd (let t : (j == i) ≡ true = y.0 in let no : ⊥ = cc in no))
    (λ d. get-other ls i j v (λ x. d.1 (sym x)) ∙ h) (eqb_tells j i)

either-left : (a b : Bool) → (a || b) ≡ false → a ≡ false
either-left true b e = e
either-left false b e = refl

either-right : (a b : Bool) → (a || b) ≡ false → b ≡ false
either-right true b e = absurd (let no : ⊥ = cc in no)
either-right false b e = e

claimed-set : (ls : List Value) (i : ℕ) (v : Value) (k : Code) → claims i k ≡ false → Claimed ls k → Claimed (slice_set ls i v) k
claimed-set ls i v Done e h = tt
claimed-set ls i v (Do n p k) e h = claimed-set ls i v k e h
claimed-set ls i v (If n a b k) e h = claimed-set ls i v k e h
claimed-set ls i v (While n c b k) e h = claimed-set ls i v k e h
claimed-set ls i v (Enter n b k) e h = claimed-set ls i v k e h
claimed-set ls i v (EnterClass n c b k) e h = claimed-set ls i v k e h
claimed-set ls i v (Exit n r k) e h = (
  named-set ls i v r (known_local n.known) (either-left (is_at i (known_local n.known)) (claims i k) e) h.0,
  claimed-set ls i v k (either-right (is_at i (known_local n.known)) (claims i k) e) h.1,
)

-- ---- the base

abbrev Based : List Value → List Value → Option ℕ → Type 0
Based ls ts None = Unit {0}
Based ls ts (Some i) = slice_get ts 0 ≡ slice_get ls i

none-based : (ls ts : List Value) (o : Option ℕ) → is_none o ≡ true → Based ls ts o
none-based ls ts None e = tt
none-based ls ts (Some i) e = absurd (let no : ⊥ = cc in no)

-- what is no Get goes before nothing that is based
other-none : (o : Option ℕ) (i : Plain) → IsPlain i → follows o i ≡ true → is_none o ≡ true
other-none None i h e = refl
other-none (Some j) (plain.Get m) h e = absurd h
other-none (Some j) (plain.Set m) h e = absurd h
other-none (Some j) i h e = absurd (let no : ⊥ = cc in no)

set-none : (o : Option ℕ) (m : ℕ) → follows o (plain.Set m) ≡ true → is_none o ≡ true
set-none None m e = refl
set-none (Some j) m e = absurd (let no : ⊥ = cc in no)

got : (ls ts : List Value) (v : Value) (i : ℕ) (o : Option ℕ) → slice_get ls i ≡ Some v → follows o (plain.Get i) ≡ true → Based ls (v ∷ ts) o
got ls ts v i None e h = tt
got ls ts v i (Some j) e h =
    ⊎_elim (λ y. sym e ∙ ap (slice_get ls) y.1)
    (λ d. absurd (let f : (i == j) ≡ false = d.0 in let no : ⊥ = cc in no)) (eqb_tells i j)

-- ---- what is claimed is owned

mark-of : (ls : List Value) (i : ℕ) (k : Code) → claims i k ≡ true → Claimed ls k → (q : ℕ) × (slice_get ls i ≡ Some (value.Ref q)) × (0 < marks_in q k)
mark-of ls i Done e h = absurd (let no : ⊥ = cc in no)
mark-of ls i (Do n p k) e h = mark-of ls i k e h
mark-of ls i (If n a b k) e h = mark-of ls i k e h
mark-of ls i (While n c b k) e h = mark-of ls i k e h
mark-of ls i (Enter n b k) e h = mark-of ls i k e h
mark-of ls i (EnterClass n c b k) e h = mark-of ls i k e h
mark-of ls i (Exit n r k) e h = chosen (λ f. mark-of ls i k f h.1) (known_local n.known) refl h.0
  where
    further : (claims i k ≡ true → (q : ℕ) × (slice_get ls i ≡ Some (value.Ref q)) × (0 < marks_in q k))
        → claims i k ≡ true → (q : ℕ) × (slice_get ls i ≡ Some (value.Ref q)) × (0 < marks_in q (Exit n r k))
    further on f = let m = on f in (m.0, m.1, omega (arith, m.2))

    chosen : (claims i k ≡ true → (q : ℕ) × (slice_get ls i ≡ Some (value.Ref q)) × (0 < marks_in q k))
        → (o : Option ℕ) → known_local n.known ≡ o → Named ls r o → (q : ℕ) × (slice_get ls i ≡ Some (value.Ref q)) × (0 < marks_in q (Exit n r k))
    chosen on None w g = further on (let x : (is_at i None || claims i k) ≡ true = ap (λ (z : Option ℕ). is_at i z || claims i k) (sym w) ∙ e in x)
    chosen on (Some j) w g =
        ⊎_elim (λ y. (r, ap (slice_get ls) (sym y.1) ∙ g, let one : mark r r ≡ 1 = same-one r in omega (arith, one)))
        (λ d. further on (let x : ((j == i) || claims i k) ≡ true = ap (λ (z : Option ℕ). is_at i z || claims i k) (sym w) ∙ e in
        let f : (j == i) ≡ false = d.0 in ap (λ (z : Bool). z || claims i k) (sym f) ∙ x)) (eqb_tells j i)

null-first : (z q : ℕ) → slice_get (replicate z value.Null) 0 ≡ Some (value.Ref q) → ⊥
null-first zero q e = cc
null-first (suc z) q e = cc

-- the first argument is what its local holds
first-held : (ls ts : List Value) (z i q : ℕ) → slice_get ts 0 ≡ slice_get ls i
    → slice_get (reverse (take 1 ts) ++ replicate z value.Null) 0 ≡ Some (value.Ref q) → slice_get ls i ≡ Some (value.Ref q)
first-held ls [] z i q h e = absurd (null-first z q e)
first-held ls (v ∷ ts) z i q h e = sym h ∙ e

module _ (p : Program) (T : Promised) (bare : HasNoMarks p) (dispatched : Dispatched p T)
    (units : (u : ℕ) (code : UnitCode) → slice_get p.units u ≡ Some code → Always (λ k. sound T u k ≡ true) code.code)
    (firsts : (u : ℕ) (code : UnitCode) → slice_get p.units u ≡ Some code → based T u code.code ≡ None) where
  abbrev Sound : ℕ → Code → Type 0
  Sound u k = sound T u k ≡ true

  -- the monitor of a `this` that is required is held by marks of the calls beneath
  abbrev Required : ℕ → List Value → List Call → Type 0
  Required u ls cs = T.requires u ≡ true → (r : ℕ) → slice_get ls 0 ≡ Some (value.Ref r) → 0 < marks_in_calls r cs

  record GoodCall (c : Call) (cs : List Call) : Type 0 where
    required : Required c.unit c.locals cs
    sound : Always (Sound c.unit) c.rest
    spined : Spined c.rest
    claimed : Claimed c.locals c.rest
    based : Based c.locals c.temps (based T c.unit c.rest)

  entered-based : (u : ℕ) (n : Note) (b k : Code) (r : ℕ) → based T u (b ⧺ Exit n r k) ≡ based T u b
  entered-based u n Done k r = refl
  entered-based u n (Do m p s) k r = refl
  entered-based u n (If m a b s) k r = refl
  entered-based u n (While m c b s) k r = refl
  entered-based u n (Enter m b s) k r = refl
  entered-based u n (EnterClass m c b s) k r = refl
  entered-based u n (Exit m q s) k r = refl

  none-is : (o q : Option ℕ) → o ≡ q → is_none q ≡ true → is_none o ≡ true
  none-is o q e h = rw e h

  entered-named : (ls ts : List Value) (r : ℕ) (o : Option ℕ) → Based ls (value.Ref r ∷ ts) o → Named ls r o
  entered-named ls ts r None h = tt
  entered-named ls ts r (Some i) h = sym h

  class-named : (ls : List Value) (r : ℕ) (o : Option ℕ) → is_none o ≡ true → Named ls r o
  class-named ls r None e = tt
  class-named ls r (Some i) e = absurd (let no : ⊥ = cc in no)

  free : (d m a u : ℕ) → unit_number p d m a ≡ Some u → T.members m ≡ false → T.requires u ≡ true → ⊥
  free d m a u e f r = let t : T.members m ≡ true = dispatched.unit d m a u e r in cc

  static-free : (u : ℕ) (n : Note) (d m a : ℕ) (k : Code) → Sound u (Do n (plain.CallStatic d m a) k) → T.members m ≡ false
  static-free u n d m a k s =
      not-true (T.members m)
      (both-right (guarded (T.requires u) None k) _ (both-right true _ (both-right (follows (based T u k) (plain.CallStatic d m a)) _ s)))

  fresh : (u : ℕ) (code : UnitCode) (args : List Value) (g : Gives) (cs : List Call) → slice_get p.units u ≡ Some code
      → Required u (call_with u code args g).locals cs → GoodCall (call_with u code args g) cs
  fresh u code args g cs e h = record {
    required = h;
    sound = units u code e;
    spined = unmarked-spined code.code (bare u code e);
    claimed = claimed-unmarked _ code.code (bare u code e);
    based = rw (firsts u code e) tt;
  }

  -- what is guarded is under a mark of the call or of one beneath
  held : (u : ℕ) (ls : List Value) (cs : List Call) (k : Code) (i q : ℕ) → Claimed ls k → Required u ls cs → guarded (T.requires u) (Some i) k ≡ true
      → slice_get ls i ≡ Some (value.Ref q) → 0 < marks_in q k + marks_in_calls q cs
  held u ls cs k i q claimed required g e = chosen (claims i k) refl
    where
      chosen : (b : Bool) → claims i k ≡ b → 0 < marks_in q k + marks_in_calls q cs
      chosen true w =
          let m = mark-of ls i k w claimed in
          let same : q ≡ m.0 = ref-is q m.0 (sym e ∙ m.1) in
          let here : 0 < marks_in q k = subst (λ (z : ℕ). 0 < marks_in z k) (sym same) m.2 in omega (arith, here)
      chosen false w =
          let g2 : (T.requires u && (i == 0)) ≡ true = ap (λ (b : Bool). b || (T.requires u && (i == 0))) (sym w) ∙ g in
          let first : (i == 0) ≡ true = both-right (T.requires u) (i == 0) g2 in
          let zero-is : i ≡ 0 = is-zero i first in
          let below : 0 < marks_in_calls q cs = required (both-left (T.requires u) (i == 0) g2) q (ap (slice_get ls) (sym zero-is) ∙ e) in
          omega (arith, below)

  called-required : (c : Call) (cs : List Call) (n : Note) (m a z : ℕ) (k : Code) (o : Option ℕ) → T.base c.unit n.place ≡ o
      → GoodCall (record c { rest = Do n (plain.Call m a) k }) cs → T.members m ≡ true
      → (q : ℕ) → slice_get (reverse (take (a + 1) c.temps) ++ replicate z value.Null) 0 ≡ Some (value.Ref q) → 0 < marks_in q k + marks_in_calls q cs
  called-required c cs n m (suc a) z k o w g t q e =
      let s : Sound c.unit (Do n (plain.Call m (suc a)) k) = always-here (Sound c.unit) (Do n (plain.Call m (suc a)) k) g.sound in
      let f : T.members m ≡ false = not-true (T.members m) (both-right (guarded (T.requires c.unit) (based_by T (T.base c.unit n.place) (plain.Call m (suc a))) k) (not (T.members m)) (both-right true _ (both-right (follows (based T c.unit k) (plain.Call m (suc a))) _ s))) in
      absurd (let no : ⊥ = cc in no)
  called-required c cs n m zero z k None w g t q e =
      let s : Sound c.unit (Do n (plain.Call m zero) k) = always-here (Sound c.unit) (Do n (plain.Call m zero) k) g.sound in
      let f : not (T.members m && is_none (T.base c.unit n.place)) ≡ true =
      both-right (guarded (T.requires c.unit) (based_by T (T.base c.unit n.place) (plain.Call m zero)) k) _ (both-right true _ (both-right (follows (based T c.unit k) (plain.Call m zero)) _ s)) in
      let f2 : not (T.members m && true) ≡ true = ap (λ (x : Option ℕ). not (T.members m && is_none x)) (sym w) ∙ f in
      let f3 : not (true && true) ≡ true = ap (λ (x : Bool). not (x && true)) (sym t) ∙ f2 in
      absurd (let no : ⊥ = cc in no)
  called-required c cs n m zero z k (Some i) w g t q e =
      let s : Sound c.unit (Do n (plain.Call m zero) k) = always-here (Sound c.unit) (Do n (plain.Call m zero) k) g.sound in
      let is : based_by T (T.base c.unit n.place) (plain.Call m zero) ≡ Some i = ap (λ (b : Bool). if b then T.base c.unit n.place else None) t ∙ w in
      let d : guarded (T.requires c.unit) (based_by T (T.base c.unit n.place) (plain.Call m zero)) k ≡ true =
      both-left _ (called_well T (T.base c.unit n.place) (plain.Call m zero)) (both-right true _ (both-right (follows (based T c.unit k) (plain.Call m zero)) _ s)) in
      let d2 : guarded (T.requires c.unit) (Some i) k ≡ true = ap (λ (x : Option ℕ). guarded (T.requires c.unit) x k) (sym is) ∙ d in
      let b2 : slice_get c.temps 0 ≡ slice_get c.locals i = subst (Based c.locals c.temps) is g.based in
      held c.unit c.locals cs k i q g.claimed g.required d2 (first-held c.locals c.temps z i q b2 e)

  set-required : (u : ℕ) (ls : List Value) (cs : List Call) (i : ℕ) (v : Value) → (T.requires u && (i == 0)) ≡ false → Required u ls cs
      → Required u (slice_set ls i v) cs
  set-required u ls cs i v e h = λ r q x.
      h r q (sym (get-other ls i 0 v (λ z.
      let one : (i == 0) ≡ true = zero-eq i z in
      let no : (true && true) ≡ false = ap (λ (b : Bool). b && true) (sym r) ∙ ap (λ (b : Bool). T.requires u && b) (sym one) ∙ e in
      absurd (let none : ⊥ = cc in none))) ∙ x)

  good-closed : IsClosedCall p GoodCall
  good-closed = record {
    main = λ d u code e h. fresh u code (value.Null ∷ []) Own [] h (λ r. absurd (free d MAIN 1 u e dispatched.special.1 r));
    started = λ d u code v e h. fresh u code (v ∷ []) Own [] h (λ r. absurd (free d RUN 0 u e dispatched.special.2 r));
    called = λ c cs n m a d u k code g e h. fresh u code (reverse (take (a + 1) c.temps)) Own _ h
        (λ r. called-required c cs n m a (code.locals - length (reverse (take (a + 1) c.temps))) k (T.base c.unit n.place) refl g (dispatched.unit d m a u e r));
    called_static = λ c cs n d m a u k code g e h. fresh u code (reverse (take a c.temps)) Own _ h
        (λ r. absurd (free d m a u e (static-free c.unit n d m a k (always-here (Sound c.unit) (Do n (plain.CallStatic d m a) k) g.sound)) r));
    made = λ c cs n d a u r k code g e h. fresh u code (value.Ref r ∷ reverse (take a c.temps)) (Object r) _ h
        (λ q. absurd (free d NEW a u e dispatched.special.0 q));
    get = λ c cs n i k v g e.
        let s : Sound c.unit (Do n (plain.Get i) k) = always-here (Sound c.unit) (Do n (plain.Get i) k) g.sound in
        record {
          required = g.required;
          sound = (always-closed (Sound c.unit)).plain n (plain.Get i) k g.sound;
          spined = g.spined;
          claimed = g.claimed;
          based = got c.locals c.temps v i (based T c.unit k) e (both-left (follows (based T c.unit k) (plain.Get i)) _ s);
        };
    set = λ c cs n i k v ts g e.
        let s : Sound c.unit (Do n (plain.Set i) k) = always-here (Sound c.unit) (Do n (plain.Set i) k) g.sound in
        let l : (not (claims i k) && not (T.requires c.unit && (i == 0))) ≡ true = both-left _ _ (both-right (follows (based T c.unit k) (plain.Set i)) _ s) in
        record {
          required = set-required c.unit c.locals cs i v (not-true (T.requires c.unit && (i == 0)) (both-right (not (claims i k)) _ l)) g.required;
          sound = (always-closed (Sound c.unit)).plain n (plain.Set i) k g.sound;
          spined = g.spined;
          claimed = claimed-set c.locals i v k (not-true (claims i k) (both-left (not (claims i k)) _ l)) g.claimed;
          based = none-based (slice_set c.locals i v) ts (based T c.unit k) (set-none (based T c.unit k) i (both-left (follows (based T c.unit k) (plain.Set i)) _ s));
        };
    plain = λ c cs n i k ts o g.
        let s : Sound c.unit (Do n i k) = always-here (Sound c.unit) (Do n i k) g.sound in
        record {
          required = g.required;
          sound = (always-closed (Sound c.unit)).plain n i k g.sound;
          spined = g.spined;
          claimed = g.claimed;
          based = none-based c.locals ts (based T c.unit k) (other-none (based T c.unit k) i o (both-left (follows (based T c.unit k) i) _ s));
        };
    yes = λ c cs n a b k ts g.
        let s : Sound c.unit (If n a b k) = always-here (Sound c.unit) (If n a b k) g.sound in
        record {
          required = g.required;
          sound = (always-closed (Sound c.unit)).yes n a b k g.sound;
          spined = spined-closed.yes n a b k g.spined;
          claimed = claimed-append c.locals a k g.spined.0 g.claimed;
          based = none-based c.locals ts (based T c.unit (a ⧺ k)) (both-left _ (is_none (based T c.unit (b ⧺ k))) s);
        };
    no = λ c cs n a b k ts g.
        let s : Sound c.unit (If n a b k) = always-here (Sound c.unit) (If n a b k) g.sound in
        record {
          required = g.required;
          sound = (always-closed (Sound c.unit)).no n a b k g.sound;
          spined = spined-closed.no n a b k g.spined;
          claimed = claimed-append c.locals b k g.spined.1 g.claimed;
          based = none-based c.locals ts (based T c.unit (b ⧺ k)) (both-right (is_none (based T c.unit (a ⧺ k))) _ s);
        };
    turn = λ c cs n x b k g.
        let s : Sound c.unit (While n x b k) = always-here (Sound c.unit) (While n x b k) g.sound in
        record {
          required = g.required;
          sound = (always-closed (Sound c.unit)).turn n x b k g.sound;
          spined = spined-closed.turn n x b k g.spined;
          claimed = claimed-append c.locals x (again n x b k) g.spined.0 g.claimed;
          based = none-based c.locals c.temps (based T c.unit (x ⧺ again n x b k)) s;
        };
    enter = λ c cs n b k r ts g e.
        let s : Sound c.unit (Enter n b k) = always-here (Sound c.unit) (Enter n b k) g.sound in
        let h : Based c.locals (value.Ref r ∷ ts) (known_local n.known) = subst (λ (l : List Value). Based c.locals l (known_local n.known)) e g.based in
        record {
          required = g.required;
          sound = (always-closed (Sound c.unit)).enter n b k r g.sound;
          spined = spined-closed.enter n b k r g.spined;
          claimed = claimed-append c.locals b (Exit n r k) g.spined.0 (entered-named c.locals ts r (known_local n.known) h, g.claimed);
          based = none-based c.locals ts (based T c.unit (b ⧺ Exit n r k)) (none-is _ (based T c.unit b) (entered-based c.unit n b k r) s);
        };
    enter_class = λ c cs n d b k g.
        let s : Sound c.unit (EnterClass n d b k) = always-here (Sound c.unit) (EnterClass n d b k) g.sound in
        record {
          required = g.required;
          sound = (always-closed (Sound c.unit)).enter_class n d b k g.sound;
          spined = spined-closed.enter_class n d b k g.spined;
          claimed = claimed-append c.locals b (Exit n d k) g.spined.0
              (class-named c.locals d (known_local n.known) (both-right (is_none (based T c.unit b)) _ s), g.claimed);
          based = none-based c.locals c.temps (based T c.unit (b ⧺ Exit n d k))
              (none-is _ (based T c.unit b) (entered-based c.unit n b k d) (both-left _ (is_none (known_local n.known)) s));
        };
    exit = λ c cs n r k g.
        let s : Sound c.unit (Exit n r k) = always-here (Sound c.unit) (Exit n r k) g.sound in
        record {
          required = g.required;
          sound = (always-closed (Sound c.unit)).exit n r k g.sound;
          spined = g.spined;
          claimed = g.claimed.1;
          based = none-based c.locals c.temps (based T c.unit k) s;
        };
  }

  pub owned : (mains schedule : List ℕ) (t i r f : ℕ) (call : Call) (below : List Call) (n : Note) (k : Code) (ts : List Value)
      → slice_get (run p (begin p mains) schedule).threads t ≡ Some (record { calls = call ∷ below; mode = mode.Running })
      → call.rest ≡ Do n (plain.Field f) k → T.base call.unit n.place ≡ Some i → call.temps ≡ value.Ref r ∷ ts
      → owner_at (run p (begin p mains) schedule) r ≡ Some t
  owned mains schedule t i r f call below n k ts there rest table temps =
      let c : Config = run p (begin p mains) schedule in
      let w : Counted c = counted-whole p bare mains schedule in
      let g : GoodCall call below = (calls-carried p GoodCall good-closed mains schedule t (record { calls = call ∷ below; mode = mode.Running }) there).0 in
      let s : Sound call.unit (Do n (plain.Field f) k) = always-here (Sound call.unit) (Do n (plain.Field f) k) (subst (Always (Sound call.unit)) rest g.sound) in
      let d : guarded (T.requires call.unit) (T.base call.unit n.place) k ≡ true = both-left _ _ (both-right true _ (both-right (follows (based T call.unit k) (plain.Field f)) _ s)) in
      let guard : guarded (T.requires call.unit) (Some i) k ≡ true = ap (λ (o : Option ℕ). guarded (T.requires call.unit) o k) (sym table) ∙ d in
      let claimed : Claimed call.locals k = subst (Claimed call.locals) rest g.claimed in
      let b1 : Based call.locals call.temps (T.base call.unit n.place) = subst (λ (l : Code). Based call.locals call.temps (based T call.unit l)) rest g.based in
      let b2 : slice_get call.temps 0 ≡ slice_get call.locals i = subst (Based call.locals call.temps) table b1 in
      let base : slice_get call.locals i ≡ Some (value.Ref r) = sym b2 ∙ ap (λ (l : List Value). slice_get l 0) temps in
      let marks : marks_in r call.rest ≡ marks_in r k = ap (marks_in r) rest in
      let under : 0 < marks_in r k + marks_in_calls r below = held call.unit call.locals below k i r claimed g.required guard base in
      let x : marks_in r call.rest + marks_in_calls r below ≡ entries_of t (slice_get c.objects r) = ap (marks_by r) (sym there) ∙ w.exact t r in
      owned-by t (slice_get c.objects r) (omega (arith, under, marks, x))
