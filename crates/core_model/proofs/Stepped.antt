-- A thread taken out of its place, and put back after its step.
use Rattle.std.proofs.Common.{◌≡◌, ℕ, zero, suc, List, [], ◌∷◌, ◌++◌, Some, None, slice_get, slice_set, refl, ap}
use Rattle.std.specs.Option.{option_to_list}
use Rattle.core_model.specs.Begin.{no_thread}
use Rattle.core_model.specs.Step.{thread_step, step}
use Rattle.core_model.specs.declared.program.Program.{Program}
use Rattle.core_model.specs.declared.config.Config.{Config}
use Rattle.core_model.specs.declared.config.Thread.{Thread}
use Rattle.core_model.specs.declared.frame.After.{After}

pub set-none : {T : Type 0} (xs : List T) (t : ℕ) (x : T) → slice_get xs t ≡ None → slice_set xs t x ≡ xs
set-none [] t x e = refl
set-none (y ∷ ys) zero x e = cc
set-none (y ∷ ys) (suc t) x e = ap (λ zs. y ∷ zs) (set-none ys t x e)

pub set-twice : {T : Type 0} (xs : List T) (t : ℕ) (x y : T) → slice_set (slice_set xs t x) t y ≡ slice_set xs t y
set-twice [] t x y = refl
set-twice (z ∷ zs) zero x y = refl
set-twice (z ∷ zs) (suc t) x y = ap (λ ws. z ∷ ws) (set-twice zs t x y)

pub stays : (program : Program) (c : Config) (t : ℕ) → slice_get c.threads t ≡ None
    → record { objects = c.objects; threads = slice_set c.threads t no_thread } ≡ step program c t
stays program c t e = rw (set-none c.threads t no_thread e, e) refl

pub steps : (program : Program) (c : Config) (t : ℕ) (thread : Thread) (a : After) → slice_get c.threads t ≡ Some thread
    → a ≡ thread_step program t c.objects thread thread.calls
    → record { objects = a.objects; threads = slice_set (slice_set c.threads t no_thread) t (record { calls = a.calls; mode = a.mode }) ++ option_to_list a.started }
    ≡ step program c t
steps program c t thread a e h = rw (e, set-twice, h) refl
