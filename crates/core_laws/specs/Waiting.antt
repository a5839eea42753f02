-- Threads that cannot step.
use Rattle.std.specs.Prelude.{◌≡◌, ℕ, true, List, ◌∷◌, Option, Some, None, slice_get}
use Rattle.core_model.specs.Code.{Code, Enter, EnterClass}
use Rattle.core_model.specs.Objects.{blocks}
use Rattle.core_model.specs.declared.config.Call.{Call}
use Rattle.core_model.specs.declared.config.Config.{Config}
use Rattle.core_model.specs.declared.config.Thread.{Thread}
use Rattle.core_model.specs.declared.config.Mode.TheVariants as mode
use Rattle.core_model.specs.declared.value.Value.{Value}
use Rattle.core_model.specs.declared.value.Value.TheVariants as value

-- the object whose monitor the next instruction enters
abbrev pub entered_next : Code → List Value → Option ℕ
entered_next (Enter n b k) (value.Ref r ∷ ts) = Some r
entered_next (EnterClass n c b k) ts = Some c
entered_next k ts = None

-- thread t is about to enter a monitor that another thread owns
pub record IsBlocked (c : Config) (t : ℕ) (thread : Thread) (call : Call) (below : List Call) (r : ℕ) : Type 0 where
  pub there : slice_get c.threads t ≡ Some thread
  pub running : thread.mode ≡ mode.Running
  pub calls : thread.calls ≡ call ∷ below
  pub enters : entered_next call.rest call.temps ≡ Some r
  pub owned : blocks t (slice_get c.objects r) ≡ true
