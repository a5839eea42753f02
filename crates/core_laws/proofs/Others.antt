-- A step changes one thread, and adds at most one at the end.
use Rattle.std.proofs.Common.{◌≡◌, ◌≢◌, ℕ, zero, suc, List, [], ◌∷◌, ◌++◌, Option, Some, None, slice_get, slice_set, sym, ◌∙◌}
use Rattle.std.specs.Option.{option_to_list}
use Rattle.core_model.specs.Step.{thread_step, step_of, step}
use Rattle.core_model.specs.declared.program.Program.{Program}
use Rattle.core_model.specs.declared.config.Config.{Config}
use Rattle.core_model.specs.declared.config.Thread.{Thread}
use Rattle.core_laws.proofs.Owners.{get-other}

pub get-front : {A : Type 0} (xs ys : List A) (s : ℕ) (x : A) → slice_get xs s ≡ Some x → slice_get (xs ++ ys) s ≡ Some x
get-front [] ys s x e = absurd (let no : ⊥ = cc in no)
get-front (y ∷ xs) ys zero x e = e
get-front (y ∷ xs) ys (suc s) x e = get-front xs ys s x e

others-of : (p : Program) (c : Config) (t s : ℕ) (h : Thread) (o : Option Thread) → s ≢ t → slice_get c.threads s ≡ Some h
    → slice_get (step_of p c t o).threads s ≡ Some h
others-of p c t s h None ne e = e
others-of p c t s h (Some now) ne e =
    get-front (slice_set c.threads t _) (option_to_list (thread_step p t c.objects now now.calls).started) s h
    (get-other c.threads t s _ (λ x. ne (sym x)) ∙ e)

pub others-stay : (p : Program) (c : Config) (t s : ℕ) (h : Thread) → s ≢ t → slice_get c.threads s ≡ Some h
    → slice_get (step p c t).threads s ≡ Some h
others-stay p c t s h ne e = others-of p c t s h (slice_get c.threads t) ne e
