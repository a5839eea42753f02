-- A call that makes an object is of a constructor, keeps the object as its `this` and gives it to its caller.
use Rattle.std.proofs.Common.{◌≡◌, ◌↔◌, ℕ, ◌==◌, not, true, false, List, ◌∷◌, Option, Some, None, slice_get, slice_set, arith, refl, ap, ◌∙◌, subst, append-nil}
use Rattle.core_model.specs.Code.{Code, Do}
use Rattle.core_model.specs.Units.{unit_number}
use Rattle.core_model.specs.Begin.{begin}
use Rattle.core_model.specs.Step.{given, with_given, resumed, running_step, leaving_step, call_step, with_step, step_of, step, run}
use Rattle.core_model.specs.declared.program.TheConstants.{NEW, MAIN, RUN}
use Rattle.core_model.specs.declared.instr.Plain.TheVariants as plain
use Rattle.core_model.specs.declared.program.Program.{Program}
use Rattle.core_model.specs.declared.program.UnitCode.{UnitCode}
use Rattle.core_model.specs.declared.config.Call.{Call}
use Rattle.core_model.specs.declared.config.Config.{Config}
use Rattle.core_model.specs.declared.config.Gives.{Gives}
use Rattle.core_model.specs.declared.config.Gives.TheVariants.{Own, Object}
use Rattle.core_model.specs.declared.config.Mode.{Mode}
use Rattle.core_model.specs.declared.config.Mode.TheVariants as mode
use Rattle.core_model.specs.declared.config.Thread.{Thread}
use Rattle.core_model.specs.declared.frame.After.{After}
use Rattle.core_model.specs.declared.object.Obj.{Obj}
use Rattle.core_model.specs.declared.value.Value.{Value}
use Rattle.core_model.specs.declared.value.Value.TheVariants as value
use Rattle.core_laws.specs.Places.{Always, Each, EveryCall}
use Rattle.core_laws.proofs.Owners.{get-set, get-other}
use Rattle.core_laws.proofs.Lists.{each-map}
use Rattle.core_laws.proofs.Carried.{IsClosed, Begins, HasBy, calls-have}
use Rattle.core_laws.proofs.Always.{always-closed, always-here}
use Rattle.core_laws.specs.Constructors.{HasOwnConstructors, IsConstructor, IsLeft, IsObject, MakesByUnit, new_uncalled, this_stays}
use Rattle.core_laws.proofs.Guarded.{not-true, zero-eq}
use Rattle.core_laws.proofs.Stacks.{IsClosedCall, calls-carried}

module _ (p : Program) (units : (u : ℕ) (code : UnitCode) → slice_get p.units u ≡ Some code → Always (λ k. this_stays k ≡ true) code.code) where
  abbrev Stays : Code → Type 0
  Stays k = this_stays k ≡ true

  abbrev Makes : ℕ → List Value → Gives → Type 0
  Makes u ls Own = Unit {0}
  Makes u ls (Object r) = (slice_get ls 0 ≡ Some (value.Ref r)) × IsConstructor p u

  record Made (c : Call) (cs : List Call) : Type 0 where
    stays : Always Stays c.rest
    makes : Makes c.unit c.locals c.gives

  set-makes : (u : ℕ) (ls : List Value) (g : Gives) (i : ℕ) (v : Value) → (i == 0) ≡ false → Makes u ls g → Makes u (slice_set ls i v) g
  set-makes u ls Own i v e h = tt
  set-makes u ls (Object r) i v e h =
      (get-other ls i 0 v (λ z. let one : (i == 0) ≡ true = zero-eq i z in absurd (let no : ⊥ = cc in no)) ∙ h.0, h.1)

  made-closed : IsClosedCall p Made
  made-closed = record {
    main = λ d u code e h. record { stays = units u code h; makes = tt };
    started = λ d u code v e h. record { stays = units u code h; makes = tt };
    called = λ c cs n m a d u k code g e h. record { stays = units u code h; makes = tt };
    called_static = λ c cs n d m a u k code g e h. record { stays = units u code h; makes = tt };
    made = λ c cs n d a u r k code g e h. record { stays = units u code h; makes = (refl, (d, a, e)) };
    get = λ c cs n i k v g e. record { stays = (always-closed Stays).plain n (plain.Get i) k g.stays; makes = g.makes };
    set = λ c cs n i k v ts g e. record {
      stays = (always-closed Stays).plain n (plain.Set i) k g.stays;
      makes = set-makes c.unit c.locals c.gives i v (not-true (i == 0) (always-here Stays (Do n (plain.Set i) k) g.stays)) g.makes;
    };
    plain = λ c cs n i k ts o g. record { stays = (always-closed Stays).plain n i k g.stays; makes = g.makes };
    yes = λ c cs n a b k ts g. record { stays = (always-closed Stays).yes n a b k g.stays; makes = g.makes };
    no = λ c cs n a b k ts g. record { stays = (always-closed Stays).no n a b k g.stays; makes = g.makes };
    turn = λ c cs n x b k g. record { stays = (always-closed Stays).turn n x b k g.stays; makes = g.makes };
    enter = λ c cs n b k r ts g e. record { stays = (always-closed Stays).enter n b k r g.stays; makes = g.makes };
    enter_class = λ c cs n d b k g. record { stays = (always-closed Stays).enter_class n d b k g.stays; makes = g.makes };
    exit = λ c cs n r k g. record { stays = (always-closed Stays).exit n r k g.stays; makes = g.makes };
  }

  pub constructed : (mains schedule : List ℕ) (t r : ℕ) (call : Call) (below : List Call)
      → slice_get (run p (begin p mains) schedule).threads t ≡ Some (record { calls = call ∷ below; mode = mode.Running })
      → call.gives ≡ Object r → (slice_get call.locals 0 ≡ Some (value.Ref r)) × IsConstructor p call.unit
  constructed mains schedule t r call below there gives =
      let c : Config = run p (begin p mains) schedule in
      let g : Made call below = (calls-carried p Made made-closed mains schedule t (record { calls = call ∷ below; mode = mode.Running }) there).0 in
      subst (Makes call.unit call.locals) gives g.makes

-- ---- the calls that make objects are those of constructors

module _ (p : Program) (own : HasOwnConstructors p)
    (units : (u : ℕ) (code : UnitCode) → slice_get p.units u ≡ Some code → Always (λ k. new_uncalled k ≡ true) code.code) where
  abbrev Uncalled : Code → Type 0
  Uncalled k = new_uncalled k ≡ true

  abbrev ByUnit : ℕ → Gives → Code → Type 0
  ByUnit u g k = Always Uncalled k × (IsObject g ↔ IsConstructor p u)

  by-unit-closed : (u : ℕ) (g : Gives) → IsClosed (ByUnit u g)
  by-unit-closed u g = record {
    plain = λ n i k h. ((always-closed Uncalled).plain n i k h.0, h.1);
    past_if = λ n a b k h. ((always-closed Uncalled).past_if n a b k h.0, h.1);
    yes = λ n a b k h. ((always-closed Uncalled).yes n a b k h.0, h.1);
    no = λ n a b k h. ((always-closed Uncalled).no n a b k h.0, h.1);
    past_while = λ n x b k h. ((always-closed Uncalled).past_while n x b k h.0, h.1);
    turn = λ n x b k h. ((always-closed Uncalled).turn n x b k h.0, h.1);
    past_enter = λ n b k h. ((always-closed Uncalled).past_enter n b k h.0, h.1);
    enter = λ n b k r h. ((always-closed Uncalled).enter n b k r h.0, h.1);
    past_class = λ n d b k h. ((always-closed Uncalled).past_class n d b k h.0, h.1);
    enter_class = λ n d b k h. ((always-closed Uncalled).enter_class n d b k h.0, h.1);
    exit = λ n r k h. ((always-closed Uncalled).exit n r k h.0, h.1);
  }

  -- a call of another member is of no constructor
  other : (d m a u : ℕ) (code : UnitCode) → unit_number p d m a ≡ Some u → slice_get p.units u ≡ Some code → (m ≡ NEW → ⊥) → ByUnit u Own code.code
  other d m a u code e w ne = (units u code w, (λ no. absurd no, λ is. ne (own d m a u e is)))

  same-name : (m : ℕ) → m ≡ NEW → (m == NEW) ≡ true
  same-name m e = zero-eq m e

  renamed : (m : ℕ) → not (m == NEW) ≡ true → m ≡ NEW → ⊥
  renamed m u e = let a : (m == NEW) ≡ false = not-true (m == NEW) u in let b : (m == NEW) ≡ true = same-name m e in cc

  begins : Begins p ByUnit
  begins = record {
    main = λ d u code e w. other d MAIN 1 u code e w (λ z. let no : ⊥ = omega arith in no);
    started = λ d u code e w. other d RUN 0 u code e w (λ z. let no : ⊥ = omega arith in no);
    called = λ v g n m a d u k code h e w. other d m a u code e w (renamed m (always-here Uncalled (Do n (plain.Call m a) k) h.0));
    called_static = λ v g n d m a u k code h e w. other d m a u code e w (renamed m (always-here Uncalled (Do n (plain.CallStatic d m a) k) h.0));
    made = λ d a u r code e w. (units u code w, (λ z. (d, a, e), λ z. tt));
  }

  pub made-by-unit : (mains schedule : List ℕ) → EveryCall (MakesByUnit p) (run p (begin p mains) schedule).threads
  made-by-unit mains schedule =
      each-map (λ (t : Thread). Each (HasBy ByUnit) t.calls) (λ (t : Thread). Each (MakesByUnit p) t.calls) (run p (begin p mains) schedule).threads
      (λ t g. each-map (HasBy ByUnit) (MakesByUnit p) t.calls (λ c h. h.1) g) (calls-have ByUnit by-unit-closed p begins mains schedule)

-- ---- what a call that makes an object gives

left-step : (p : Program) (t : ℕ) (os : List Obj) (call caller : Call) (below : List Call) (m : Mode) (r : ℕ) → call.gives ≡ Object r → IsLeft m call.rest
    → call_step p t (record { objects = os; call = call; below = caller ∷ below }) m
    ≡ record { objects = os; calls = with_given caller (Some (value.Ref r)) ∷ below; mode = mode.Running; started = None }
left-step p t os call caller below mode.Running r g l =
    ap (running_step p t (record { objects = os; call = call; below = caller ∷ below })) l
    ∙ ap (λ (o : Gives). resumed os (given o None) (caller ∷ below)) g
left-step p t os call caller below (mode.Leaving v) r g l =
    ap (leaving_step (record { objects = os; call = call; below = caller ∷ below }) v) l
    ∙ ap (λ (o : Gives). resumed os (given o v) (caller ∷ below)) g
left-step p t os call caller below mode.Ending r g l = absurd l
left-step p t os call caller below mode.Over r g l = absurd l

pub left-gives : (p : Program) (c : Config) (t r : ℕ) (call caller : Call) (below : List Call) (m : Mode)
    → slice_get c.threads t ≡ Some (record { calls = call ∷ caller ∷ below; mode = m }) → call.gives ≡ Object r → IsLeft m call.rest
    → slice_get (step p c t).threads t ≡ Some (record { calls = with_given caller (Some (value.Ref r)) ∷ below; mode = mode.Running })
left-gives p c t r call caller below m there g l =
    let before : Thread = record { calls = call ∷ caller ∷ below; mode = m } in
    let new : Thread = record { calls = with_given caller (Some (value.Ref r)) ∷ below; mode = mode.Running } in
    ap (λ (o : Option Thread). slice_get (step_of p c t o).threads t) there
    ∙ ap (λ (a : After). slice_get (with_step c t a).threads t) (left-step p t c.objects call caller below m r g l)
    ∙ ap (λ (ts : List Thread). slice_get ts t) (append-nil (slice_set c.threads t new))
    ∙ get-set c.threads t before new there
