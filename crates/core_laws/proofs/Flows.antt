-- A property of objects that writes, new objects and counting monitors up and down keep is kept by every step.
use Rattle.std.proofs.Common.{◌≡◌, ℕ, List, [], ◌∷◌, ◌++◌, Some, slice_get}
use Rattle.core_model.specs.Objects.{changed, with_field, entered, exited, fresh_object, made}
use Rattle.core_model.specs.Step.{step, run}
use Rattle.core_model.specs.declared.program.Program.{Program}
use Rattle.core_model.specs.declared.program.ClassInfo.{ClassInfo}
use Rattle.core_model.specs.declared.config.Config.{Config}
use Rattle.core_model.specs.declared.object.Obj.{Obj}
use Rattle.core_model.specs.declared.value.Value.{Value}
use Rattle.core_laws.proofs.Stepping.{IsStepwise, step-allowed}

-- what a property of objects is kept by; a class that objects are made of is one of the program's
pub record IsKept (p : Program) (G : List Obj → Type 0) : Type 0 where
  pub write : (os : List Obj) (r i : ℕ) (v : Value) → G os → G (changed os r (λ o. with_field o i v))
  pub enter : (os : List Obj) (r t : ℕ) → G os → G (changed os r (entered t))
  pub exit : (os : List Obj) (r : ℕ) → G os → G (changed os r exited)
  pub fresh : (os : List Obj) → G os → G (os ++ fresh_object ∷ [])
  pub make : (os : List Obj) (c : ℕ) (info : ClassInfo) → slice_get p.classes c ≡ Some info → G os → G (made os c info.fields)

module _ (p : Program) (G : List Obj → Type 0) (kept : IsKept p G) where
  stepwise : IsStepwise p (λ os t m cs. Unit {0}) (λ os t m cs. Unit {0}) (λ s os ns. G os → G ns)
  stepwise = record {
    same = λ t os g. g;
    stays = λ s t os ns m cs ne r g z. tt;
    begun = λ t d u code e w z. tt;
    begun_over = λ t z. tt;
    faults = λ os t c k cs f may z. tt;
    pushes = λ os t c n i k ts cs f h e z. tt;
    sets = λ os t c n i k v ts cs f e l z. tt;
    writes = λ os t c n i k v r ts cs f e w. (λ g. kept.write os r i v g, λ z. tt);
    writes_static = λ os t c n d i k v ts cs f e w. (λ g. kept.write os d i v g, λ z. tt);
    makes_plain = λ os t c n k cs f. (λ g. kept.fresh os g, λ z. tt);
    makes = λ os t c n d a k info cs f l e w. (λ g. kept.make os d info e g, λ z. tt);
    constructs = λ os t c n d a k info u code cs f l e w x. (λ g. kept.make os d info e g, λ z. tt);
    makes_lost = λ os t c n d a k info u cs f e w x. (λ g. kept.make os d info e g, λ z. tt);
    calls = λ os t c n m a k r d u code cs f l e w x y z. tt;
    calls_static = λ os t c n d m a k u code cs f l x y z. tt;
    starts_none = λ os t c n k ts cs f e z. tt;
    starts = λ os t c n k r d u code ts cs f e w x y. (λ z. tt, λ s a z. tt);
    yes = λ os t c n a b k ts cs f e z. tt;
    no = λ os t c n a b k ts cs f e z. tt;
    turns = λ os t c n x b k cs f z. tt;
    enters = λ os t c n b k r ts o cs f e w x. (λ g. kept.enter os r t g, λ z. tt);
    enters_class = λ os t c n d b k o cs f w x. (λ g. kept.enter os d t g, λ z. tt);
    exits = λ os t c n r k cs f. (λ g. kept.exit os r g, λ z. tt);
    returns = λ os t c n k cs f z. tt;
    returns_value = λ os t c n k v ts cs f e z. tt;
    done = λ os t c d cs f z. tt;
    done_last = λ os t c f z. tt;
    gives_up = λ os t v c r k cs f e. (λ g. kept.exit os r g, λ z. tt);
    leaves = λ os t v c d cs f e z. tt;
    leaves_last = λ os t v c f e z. tt;
    unwinds = λ os t c r k cs f e. (λ g. kept.exit os r g, λ z. tt);
    drops = λ os t c d cs f e z. tt;
    drops_last = λ os t c f e z. tt;
  }

  pub there-step : (c : Config) (t : ℕ) → G c.objects → G (step p c t).objects
  there-step c t g =
      step-allowed p (λ os s m cs. Unit {0}) (λ os s m cs. Unit {0}) (λ s os ns. G os → G ns) stepwise c t (λ s. tt) (λ s. tt) g

  pub there-run : (c : Config) (schedule : List ℕ) → G c.objects → G (run p c schedule).objects
  there-run c [] g = g
  there-run c (t ∷ schedule) g = there-run (step p c t) schedule (there-step c t g)
