-- What is closed under the ways in which code goes on holds of what is left of each call, in every run.
use Rattle.std.proofs.Common.{◌≡◌, ℕ, List, Option, Some, None, length, slice_get, ap, subst}
use Rattle.core_model.specs.Code.{Code, Done, Do, If, While, Enter, EnterClass, Exit, ◌⧺◌}
use Rattle.core_model.specs.Units.{unit_number}
use Rattle.core_model.specs.Begin.{begin}
use Rattle.core_model.specs.Step.{with_given, next_exit, step, run}
use Rattle.core_model.specs.declared.program.TheConstants.{NEW, MAIN, RUN}
use Rattle.core_model.specs.declared.instr.Note.{Note}
use Rattle.core_model.specs.declared.instr.Plain.{Plain}
use Rattle.core_model.specs.declared.instr.Plain.TheVariants as plain
use Rattle.core_model.specs.declared.program.Program.{Program}
use Rattle.core_model.specs.declared.program.UnitCode.{UnitCode}
use Rattle.core_model.specs.declared.config.Call.{Call}
use Rattle.core_model.specs.declared.config.Config.{Config}
use Rattle.core_model.specs.declared.config.Thread.{Thread}
use Rattle.core_model.specs.declared.config.Gives.{Gives}
use Rattle.core_model.specs.declared.config.Gives.TheVariants.{Own, Object}
use Rattle.core_model.specs.declared.value.Value.{Value}
use Rattle.core_laws.specs.Places.{again, Each, EveryCall}
use Rattle.core_laws.proofs.Stepping.{past, IsStepwise, stepped, at-begin, always, threads-all, threads-each}

pub record IsClosed (G : Code → Type 0) : Type 0 where
  pub plain : (n : Note) (i : Plain) (k : Code) → G (Do n i k) → G k
  pub past_if : (n : Note) (a b k : Code) → G (If n a b k) → G k
  pub yes : (n : Note) (a b k : Code) → G (If n a b k) → G (a ⧺ k)
  pub no : (n : Note) (a b k : Code) → G (If n a b k) → G (b ⧺ k)
  pub past_while : (n : Note) (c b k : Code) → G (While n c b k) → G k
  pub turn : (n : Note) (c b k : Code) → G (While n c b k) → G (c ⧺ again n c b k)
  pub past_enter : (n : Note) (b k : Code) → G (Enter n b k) → G k
  pub enter : (n : Note) (b k : Code) (r : ℕ) → G (Enter n b k) → G (b ⧺ Exit n r k)
  pub past_class : (n : Note) (c : ℕ) (b k : Code) → G (EnterClass n c b k) → G k
  pub enter_class : (n : Note) (c : ℕ) (b k : Code) → G (EnterClass n c b k) → G (b ⧺ Exit n c k)
  pub exit : (n : Note) (r : ℕ) (k : Code) → G (Exit n r k) → G k

-- each unit's code has G
abbrev pub UnitsHave : (ℕ → Code → Type 0) → Program → Type 0
UnitsHave G p = (u : ℕ) (code : UnitCode) → slice_get p.units u ≡ Some code → G u code.code

abbrev pub Has : (ℕ → Code → Type 0) → Call → Type 0
Has G c = G c.unit c.rest

-- the same with what the call gives
abbrev pub HasBy : (ℕ → Gives → Code → Type 0) → Call → Type 0
HasBy G c = G c.unit c.gives c.rest

-- the code of each call has G as the call begins, whichever way it begins
pub record Begins (p : Program) (G : ℕ → Gives → Code → Type 0) : Type 0 where
  pub main : (d u : ℕ) (code : UnitCode) → unit_number p d MAIN 1 ≡ Some u → slice_get p.units u ≡ Some code → G u Own code.code
  pub started : (d u : ℕ) (code : UnitCode) → unit_number p d RUN 0 ≡ Some u → slice_get p.units u ≡ Some code → G u Own code.code
  pub called : (v : ℕ) (g : Gives) (n : Note) (m a d u : ℕ) (k : Code) (code : UnitCode) → G v g (Do n (plain.Call m a) k)
      → unit_number p d m a ≡ Some u → slice_get p.units u ≡ Some code → G u Own code.code
  pub called_static : (v : ℕ) (g : Gives) (n : Note) (d m a u : ℕ) (k : Code) (code : UnitCode) → G v g (Do n (plain.CallStatic d m a) k)
      → unit_number p d m a ≡ Some u → slice_get p.units u ≡ Some code → G u Own code.code
  pub made : (d a u r : ℕ) (code : UnitCode) → unit_number p d NEW a ≡ Some u → slice_get p.units u ≡ Some code → G u (Object r) code.code

module _ (G : ℕ → Gives → Code → Type 0) (closed : (u : ℕ) (g : Gives) → IsClosed (G u g)) (p : Program) (begins : Begins p G) where
  -- what comes after the first instruction
  past-has : (u : ℕ) (g : Gives) (k : Code) → G u g k → G u g (past k)
  past-has u g Done h = h
  past-has u g (Do n i k) h = (closed u g).plain n i k h
  past-has u g (If n a b k) h = (closed u g).past_if n a b k h
  past-has u g (While n c b k) h = (closed u g).past_while n c b k h
  past-has u g (Enter n b k) h = (closed u g).past_enter n b k h
  past-has u g (EnterClass n c b k) h = (closed u g).past_class n c b k h
  past-has u g (Exit n r k) h = (closed u g).exit n r k h

  abbrev after_mark : Code → Option (ℕ × Code) → Code
  after_mark l None = l
  after_mark l (Some (r, k)) = k

  -- what comes after the next mark
  exit-has : (u : ℕ) (g : Gives) (k : Code) (r : ℕ) (l : Code) → next_exit k ≡ Some (r, l) → G u g k → G u g l
  exit-has u g Done r l e h = absurd (let no : ⊥ = cc in no)
  exit-has u g (Do n i k) r l e h = exit-has u g k r l e ((closed u g).plain n i k h)
  exit-has u g (If n a b k) r l e h = exit-has u g k r l e ((closed u g).past_if n a b k h)
  exit-has u g (While n c b k) r l e h = exit-has u g k r l e ((closed u g).past_while n c b k h)
  exit-has u g (Enter n b k) r l e h = exit-has u g k r l e ((closed u g).past_enter n b k h)
  exit-has u g (EnterClass n c b k) r l e h = exit-has u g k r l e ((closed u g).past_class n c b k h)
  exit-has u g (Exit n q k) r l e h = subst (G u g) (ap (after_mark k) e) ((closed u g).exit n q k h)

  given-has : (c : Call) (o : Option Value) → HasBy G c → HasBy G (with_given c o)
  given-has c None h = h
  given-has c (Some v) h = h

  stepwise : IsStepwise p (λ os t m cs. Unit {0}) (λ os t m cs. Each (HasBy G) cs) (λ s os ns. Unit {0})
  stepwise = record {
    same = λ t os. tt;
    stays = λ s t os ns m cs ne r g z. g;
    begun = λ t d u code e w z. (begins.main d u code e w, tt);
    begun_over = λ t z. tt;
    faults = λ os t c k cs f may z. (past-has c.unit c.gives k f.1.0, f.1.1);
    pushes = λ os t c n i k ts cs f h e z. ((closed c.unit c.gives).plain n i k f.1.0, f.1.1);
    sets = λ os t c n i k v ts cs f e l z. ((closed c.unit c.gives).plain n (plain.Set i) k f.1.0, f.1.1);
    writes = λ os t c n i k v r ts cs f e w. (tt, λ z. ((closed c.unit c.gives).plain n (plain.PutField i) k f.1.0, f.1.1));
    writes_static = λ os t c n d i k v ts cs f e w. (tt, λ z. ((closed c.unit c.gives).plain n (plain.PutStatic d i) k f.1.0, f.1.1));
    makes_plain = λ os t c n k cs f. (tt, λ z. ((closed c.unit c.gives).plain n plain.MakePlain k f.1.0, f.1.1));
    makes = λ os t c n d a k info cs f l e w. (tt, λ z. ((closed c.unit c.gives).plain n (plain.Make d a) k f.1.0, f.1.1));
    constructs = λ os t c n d a k info u code cs f l e w x.
        (tt, λ z. (begins.made d a u (length os) code w x, ((closed c.unit c.gives).plain n (plain.Make d a) k f.1.0, f.1.1)));
    makes_lost = λ os t c n d a k info u cs f e w x. (tt, λ z. ((closed c.unit c.gives).plain n (plain.Make d a) k f.1.0, f.1.1));
    calls = λ os t c n m a k r d u code cs f l e w x y z. (begins.called c.unit c.gives n m a d u k code f.1.0 x y, ((closed c.unit c.gives).plain n (plain.Call m a) k f.1.0, f.1.1));
    calls_static = λ os t c n d m a k u code cs f l x y z. (begins.called_static c.unit c.gives n d m a u k code f.1.0 x y, ((closed c.unit c.gives).plain n (plain.CallStatic d m a) k f.1.0, f.1.1));
    starts_none = λ os t c n k ts cs f e z. ((closed c.unit c.gives).plain n plain.Start k f.1.0, f.1.1);
    starts = λ os t c n k r d u code ts cs f e w x y.
        (λ z. ((closed c.unit c.gives).plain n plain.Start k f.1.0, f.1.1), λ s a z. (begins.started d u code x y, tt));
    yes = λ os t c n a b k ts cs f e z. ((closed c.unit c.gives).yes n a b k f.1.0, f.1.1);
    no = λ os t c n a b k ts cs f e z. ((closed c.unit c.gives).no n a b k f.1.0, f.1.1);
    turns = λ os t c n x b k cs f z. ((closed c.unit c.gives).turn n x b k f.1.0, f.1.1);
    enters = λ os t c n b k r ts o cs f e w x. (tt, λ z. ((closed c.unit c.gives).enter n b k r f.1.0, f.1.1));
    enters_class = λ os t c n d b k o cs f w x. (tt, λ z. ((closed c.unit c.gives).enter_class n d b k f.1.0, f.1.1));
    exits = λ os t c n r k cs f. (tt, λ z. ((closed c.unit c.gives).exit n r k f.1.0, f.1.1));
    returns = λ os t c n k cs f z. ((closed c.unit c.gives).plain n plain.Return k f.1.0, f.1.1);
    returns_value = λ os t c n k v ts cs f e z. ((closed c.unit c.gives).plain n plain.ReturnValue k f.1.0, f.1.1);
    done = λ os t c d cs f z. (given-has d _ f.1.1.0, f.1.1.1);
    done_last = λ os t c f z. tt;
    gives_up = λ os t v c r k cs f e. (tt, λ z. (exit-has c.unit c.gives c.rest r k e f.1.0, f.1.1));
    leaves = λ os t v c d cs f e z. (given-has d _ f.1.1.0, f.1.1.1);
    leaves_last = λ os t v c f e z. tt;
    unwinds = λ os t c r k cs f e. (tt, λ z. (exit-has c.unit c.gives c.rest r k e f.1.0, f.1.1));
    drops = λ os t c d cs f e z. (f.1.1.0, f.1.1.1);
    drops_last = λ os t c f e z. tt;
  }

  abbrev Threads : Thread → Type 0
  Threads h = Each (HasBy G) h.calls

  pub calls-step : (c : Config) (t : ℕ) → EveryCall (HasBy G) c.threads → EveryCall (HasBy G) (step p c t).threads
  calls-step c t w =
      threads-all Threads (step p c t).threads
      (stepped p (λ os s m cs. Unit {0}) (λ os s m cs. Each (HasBy G) cs) (λ s os ns. Unit {0}) stepwise c t (λ s. tt) (λ s. tt)
      (λ s. threads-each Threads c.threads s tt w))

  pub calls-begin : (mains : List ℕ) → EveryCall (HasBy G) (begin p mains).threads
  calls-begin mains =
      threads-all Threads (begin p mains).threads
      (at-begin p (λ os s m cs. Unit {0}) (λ os s m cs. Each (HasBy G) cs) (λ s os ns. Unit {0}) stepwise mains (λ s. tt))

  pub calls-have : (mains schedule : List ℕ) → EveryCall (HasBy G) (run p (begin p mains) schedule).threads
  calls-have mains schedule =
      threads-all Threads (run p (begin p mains) schedule).threads
      (always p (λ os s m cs. Unit {0}) (λ os s m cs. Each (HasBy G) cs) (λ s os ns. Unit {0}) stepwise (λ c. Unit {0}) (λ c s k. tt) (λ c k s. tt)
      mains schedule tt)

-- where what is known of a unit's code is known of each of its calls, whatever they give
module _ (G : ℕ → Code → Type 0) (closed : (u : ℕ) → IsClosed (G u)) (p : Program) (units : UnitsHave G p) where
  begins : Begins p (λ u g. G u)
  begins = record {
    main = λ d u code e w. units u code w;
    started = λ d u code e w. units u code w;
    called = λ v g n m a d u k code h e w. units u code w;
    called_static = λ v g n d m a u k code h e w. units u code w;
    made = λ d a u r code e w. units u code w;
  }

  pub step-has : (c : Config) (t : ℕ) → EveryCall (Has G) c.threads → EveryCall (Has G) (step p c t).threads
  step-has = calls-step (λ u g. G u) (λ u g. closed u) p begins

  pub begin-has : (mains : List ℕ) → EveryCall (Has G) (begin p mains).threads
  begin-has = calls-begin (λ u g. G u) (λ u g. closed u) p begins

  pub carried : (mains schedule : List ℕ) → EveryCall (Has G) (run p (begin p mains) schedule).threads
  carried = calls-have (λ u g. G u) (λ u g. closed u) p begins
