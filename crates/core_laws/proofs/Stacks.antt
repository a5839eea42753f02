-- What is closed under the ways in which a call goes on, begins another, and is gone back to, holds of each call in every run: G of
-- a call and of those beneath it, whatever the temporaries are that instructions leave which get and set no local.
use Rattle.std.proofs.Common.{◌≡◌, ℕ, ◌+◌, List, [], ◌∷◌, Option, Some, None, slice_get, slice_set, take, drop, reverse, refl, subst}
use Rattle.core_model.specs.Code.{Code, Do, If, While, Enter, EnterClass, Exit, ◌⧺◌}
use Rattle.core_model.specs.Units.{unit_number, call_with}
use Rattle.core_model.specs.Begin.{begin}
use Rattle.core_model.specs.Step.{with_given, run}
use Rattle.core_model.specs.declared.program.TheConstants.{NEW, MAIN, RUN}
use Rattle.core_model.specs.declared.instr.Note.{Note}
use Rattle.core_model.specs.declared.instr.Plain.{Plain}
use Rattle.core_model.specs.declared.instr.Plain.TheVariants as plain
use Rattle.core_model.specs.declared.program.Program.{Program}
use Rattle.core_model.specs.declared.program.UnitCode.{UnitCode}
use Rattle.core_model.specs.declared.config.Call.{Call}
use Rattle.core_model.specs.declared.config.Thread.{Thread}
use Rattle.core_model.specs.declared.config.Gives.TheVariants.{Own, Object}
use Rattle.core_model.specs.declared.config.Mode.{Mode}
use Rattle.core_model.specs.declared.config.Mode.TheVariants as mode
use Rattle.core_model.specs.declared.object.Obj.{Obj}
use Rattle.core_model.specs.declared.value.Value.{Value}
use Rattle.core_model.specs.declared.value.Value.TheVariants as value
use Rattle.core_laws.specs.Places.{again}
use Rattle.core_laws.proofs.Temps.{IsTemporary, temps_after, pushed}
use Rattle.core_laws.proofs.Stepping.{IsStepwise, found, always}

-- an instruction that gets and sets no local
abbrev pub IsPlain : Plain → Type 0
IsPlain (plain.Get i) = ⊥
IsPlain (plain.Set i) = ⊥
IsPlain _ = Unit {0}

pub record IsClosedCall (p : Program) (G : Call → List Call → Type 0) : Type 0 where
  pub main : (d u : ℕ) (code : UnitCode) → unit_number p d MAIN 1 ≡ Some u → slice_get p.units u ≡ Some code → G (call_with u code (value.Null ∷ []) Own) []
  pub started : (d u : ℕ) (code : UnitCode) (v : Value) → unit_number p d RUN 0 ≡ Some u → slice_get p.units u ≡ Some code → G (call_with u code (v ∷ []) Own) []
  pub called : (c : Call) (cs : List Call) (n : Note) (m a d u : ℕ) (k : Code) (code : UnitCode) → G (record c { rest = Do n (plain.Call m a) k }) cs
      → unit_number p d m a ≡ Some u → slice_get p.units u ≡ Some code
      → G (call_with u code (reverse (take (a + 1) c.temps)) Own) (record c { rest = k; temps = drop (a + 1) c.temps } ∷ cs)
  pub called_static : (c : Call) (cs : List Call) (n : Note) (d m a u : ℕ) (k : Code) (code : UnitCode) → G (record c { rest = Do n (plain.CallStatic d m a) k }) cs
      → unit_number p d m a ≡ Some u → slice_get p.units u ≡ Some code
      → G (call_with u code (reverse (take a c.temps)) Own) (record c { rest = k; temps = drop a c.temps } ∷ cs)
  pub made : (c : Call) (cs : List Call) (n : Note) (d a u r : ℕ) (k : Code) (code : UnitCode) → G (record c { rest = Do n (plain.Make d a) k }) cs
      → unit_number p d NEW a ≡ Some u → slice_get p.units u ≡ Some code
      → G (call_with u code (value.Ref r ∷ reverse (take a c.temps)) (Object r)) (record c { rest = k; temps = drop a c.temps } ∷ cs)
  pub get : (c : Call) (cs : List Call) (n : Note) (i : ℕ) (k : Code) (v : Value) → G (record c { rest = Do n (plain.Get i) k }) cs → slice_get c.locals i ≡ Some v
      → G (record c { rest = k; temps = v ∷ c.temps }) cs
  pub set : (c : Call) (cs : List Call) (n : Note) (i : ℕ) (k : Code) (v : Value) (ts : List Value) → G (record c { rest = Do n (plain.Set i) k }) cs → c.temps ≡ v ∷ ts
      → G (record c { rest = k; locals = slice_set c.locals i v; temps = ts }) cs
  pub plain : (c : Call) (cs : List Call) (n : Note) (i : Plain) (k : Code) (ts : List Value) → IsPlain i → G (record c { rest = Do n i k }) cs → G (record c { rest = k; temps = ts }) cs
  pub yes : (c : Call) (cs : List Call) (n : Note) (a b k : Code) (ts : List Value) → G (record c { rest = If n a b k }) cs → G (record c { rest = a ⧺ k; temps = ts }) cs
  pub no : (c : Call) (cs : List Call) (n : Note) (a b k : Code) (ts : List Value) → G (record c { rest = If n a b k }) cs → G (record c { rest = b ⧺ k; temps = ts }) cs
  pub turn : (c : Call) (cs : List Call) (n : Note) (x b k : Code) → G (record c { rest = While n x b k }) cs → G (record c { rest = x ⧺ again n x b k }) cs
  pub enter : (c : Call) (cs : List Call) (n : Note) (b k : Code) (r : ℕ) (ts : List Value) → G (record c { rest = Enter n b k }) cs → c.temps ≡ value.Ref r ∷ ts
      → G (record c { rest = b ⧺ Exit n r k; temps = ts }) cs
  pub enter_class : (c : Call) (cs : List Call) (n : Note) (d : ℕ) (b k : Code) → G (record c { rest = EnterClass n d b k }) cs → G (record c { rest = b ⧺ Exit n d k }) cs
  pub exit : (c : Call) (cs : List Call) (n : Note) (r : ℕ) (k : Code) → G (record c { rest = Exit n r k }) cs → G (record c { rest = k }) cs

module _ (p : Program) (G : Call → List Call → Type 0) (closed : IsClosedCall p G) where
  -- a call beneath another one, whatever is pushed
  abbrev pub Beneath : Call → List Call → Type 0
  Beneath c cs = (ts : List Value) → G (record c { temps = ts }) cs

  abbrev pub AllBeneath : List Call → Type 0
  AllBeneath [] = Unit {0}
  AllBeneath (c ∷ cs) = Beneath c cs × AllBeneath cs

  -- nothing is said of a call that is being left, nor of those of a thread that ends
  abbrev pub CallsGood : Mode → List Call → Type 0
  CallsGood mode.Running [] = Unit {0}
  CallsGood mode.Running (c ∷ cs) = G c cs × AllBeneath cs
  CallsGood (mode.Leaving v) [] = Unit {0}
  CallsGood (mode.Leaving v) (c ∷ cs) = AllBeneath cs
  CallsGood mode.Ending cs = Unit {0}
  CallsGood mode.Over cs = Unit {0}

  got : (c : Call) (cs : List Call) (n : Note) (i : ℕ) (k : Code) (ts : List Value) (o : Option Value) → slice_get c.locals i ≡ o
      → pushed o c.temps ≡ Some ts → G (record c { rest = Do n (plain.Get i) k }) cs → G (record c { rest = k; temps = ts }) cs
  got c cs n i k ts None e h g = absurd (let no : ⊥ = cc in no)
  got c cs n i k ts (Some v) e h g =
      let is : v ∷ c.temps ≡ ts = cc in
      subst (λ (l : List Value). G (record c { rest = k; temps = l }) cs) is (closed.get c cs n i k v g e)

  pushes : (os : List Obj) (c : Call) (cs : List Call) (n : Note) (i : Plain) (k : Code) (ts : List Value) → IsTemporary i
      → temps_after os c.locals c.temps i ≡ Some ts → G (record c { rest = Do n i k }) cs → G (record c { rest = k; temps = ts }) cs
  pushes os c cs n (plain.Get i) k ts h e g = got c cs n i k ts (slice_get c.locals i) refl e g
  pushes os c cs n (plain.Set i) k ts h e g = absurd h
  pushes os c cs n i k ts h e g = closed.plain c cs n i k ts tt g

  back : (d : Call) (cs : List Call) (o : Option Value) → Beneath d cs → G (with_given d o) cs
  back d cs None h = h d.temps
  back d cs (Some v) h = h (v ∷ d.temps)

  stepwise : IsStepwise p (λ os t m cs. Unit {0}) (λ os t m cs. CallsGood m cs) (λ s os ns. Unit {0})
  stepwise = record {
    same = λ t os. tt;
    stays = λ s t os ns m cs ne r g z. g;
    begun = λ t d u code e w z. (closed.main d u code e w, tt);
    begun_over = λ t z. tt;
    faults = λ os t c k cs f may z. tt;
    pushes = λ os t c n i k ts cs f h e z. (pushes os c cs n i k ts h e f.1.0, f.1.1);
    sets = λ os t c n i k v ts cs f e l z. (closed.set c cs n i k v ts f.1.0 e, f.1.1);
    writes = λ os t c n i k v r ts cs f e w. (tt, λ z. (closed.plain c cs n (plain.PutField i) k ts tt f.1.0, f.1.1));
    writes_static = λ os t c n d i k v ts cs f e w. (tt, λ z. (closed.plain c cs n (plain.PutStatic d i) k ts tt f.1.0, f.1.1));
    makes_plain = λ os t c n k cs f. (tt, λ z. (closed.plain c cs n plain.MakePlain k _ tt f.1.0, f.1.1));
    makes = λ os t c n d a k info cs f l e w. (tt, λ z. (closed.plain c cs n (plain.Make d a) k _ tt f.1.0, f.1.1));
    constructs = λ os t c n d a k info u code cs f l e w x.
        (tt, λ z. (closed.made c cs n d a u _ k code f.1.0 w x, (λ ts. closed.plain c cs n (plain.Make d a) k ts tt f.1.0, f.1.1)));
    makes_lost = λ os t c n d a k info u cs f e w x. (tt, λ z. tt);
    calls = λ os t c n m a k r d u code cs f l e w x y z.
        (closed.called c cs n m a d u k code f.1.0 x y, (λ ts. closed.plain c cs n (plain.Call m a) k ts tt f.1.0, f.1.1));
    calls_static = λ os t c n d m a k u code cs f l x y z.
        (closed.called_static c cs n d m a u k code f.1.0 x y, (λ ts. closed.plain c cs n (plain.CallStatic d m a) k ts tt f.1.0, f.1.1));
    starts_none = λ os t c n k ts cs f e z. (closed.plain c cs n plain.Start k ts tt f.1.0, f.1.1);
    starts = λ os t c n k r d u code ts cs f e w x y.
        (λ z. (closed.plain c cs n plain.Start k ts tt f.1.0, f.1.1), λ s a z. (closed.started d u code (value.Ref r) x y, tt));
    yes = λ os t c n a b k ts cs f e z. (closed.yes c cs n a b k ts f.1.0, f.1.1);
    no = λ os t c n a b k ts cs f e z. (closed.no c cs n a b k ts f.1.0, f.1.1);
    turns = λ os t c n x b k cs f z. (closed.turn c cs n x b k f.1.0, f.1.1);
    enters = λ os t c n b k r ts o cs f e w x. (tt, λ z. (closed.enter c cs n b k r ts f.1.0 e, f.1.1));
    enters_class = λ os t c n d b k o cs f w x. (tt, λ z. (closed.enter_class c cs n d b k f.1.0, f.1.1));
    exits = λ os t c n r k cs f. (tt, λ z. (closed.exit c cs n r k f.1.0, f.1.1));
    returns = λ os t c n k cs f z. f.1.1;
    returns_value = λ os t c n k v ts cs f e z. f.1.1;
    done = λ os t c d cs f z. (back d cs _ f.1.1.0, f.1.1.1);
    done_last = λ os t c f z. tt;
    gives_up = λ os t v c r k cs f e. (tt, λ z. f.1);
    leaves = λ os t v c d cs f e z. (back d cs _ f.1.0, f.1.1);
    leaves_last = λ os t v c f e z. tt;
    unwinds = λ os t c r k cs f e. (tt, λ z. tt);
    drops = λ os t c d cs f e z. tt;
    drops_last = λ os t c f e z. tt;
  }

  pub calls-carried : (mains schedule : List ℕ) (t : ℕ) (h : Thread) → slice_get (run p (begin p mains) schedule).threads t ≡ Some h
      → CallsGood h.mode h.calls
  calls-carried mains schedule t h e =
      let K : List Obj → ℕ → Mode → List Call → Type 0 = λ os s m cs. Unit {0} in
      let G : List Obj → ℕ → Mode → List Call → Type 0 = λ os s m cs. CallsGood m cs in
      let R : ℕ → List Obj → List Obj → Type 0 = λ s os ns. Unit {0} in
      found p K G R stepwise (run p (begin p mains) schedule) t h e
      (always p K G R stepwise (λ c. Unit {0}) (λ c s k. tt) (λ c k s. tt) mains schedule tt)
