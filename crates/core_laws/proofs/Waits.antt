-- A thread that cannot step leaves the configuration as it is.
use Rattle.std.proofs.Common.{◌≡◌, ℕ, zero, suc, Bool, true, List, [], ◌∷◌, Some, None, if◌then◌else◌, slice_get, slice_set, refl, sym, ap, ◌∙◌, append-nil}
use Rattle.core_model.specs.Code.{Code, Done, Do, If, While, Enter, EnterClass, Exit}
use Rattle.core_model.specs.Frames.{with_temps, with_rest, goes_on}
use Rattle.core_model.specs.Objects.{blocks}
use Rattle.core_model.specs.Monitors.{take_monitor}
use Rattle.core_model.specs.Step.{running_step, call_step, thread_step, with_step, step_of, step}
use Rattle.core_model.specs.declared.program.Program.{Program}
use Rattle.core_model.specs.declared.config.Call.{Call}
use Rattle.core_model.specs.declared.config.Config.{Config}
use Rattle.core_model.specs.declared.config.Thread.{Thread}
use Rattle.core_model.specs.declared.config.Mode.{Mode}
use Rattle.core_model.specs.declared.config.Mode.TheVariants as mode
use Rattle.core_model.specs.declared.frame.Frame.{Frame}
use Rattle.core_model.specs.declared.object.Obj.{Obj}
use Rattle.core_model.specs.declared.value.Value.{Value}
use Rattle.core_model.specs.declared.value.Value.TheVariants as value
use Rattle.core_laws.specs.Waiting.{entered_next, IsBlocked}

set-same : {A : Type 0} (xs : List A) (t : ℕ) (x : A) → slice_get xs t ≡ Some x → slice_set xs t x ≡ xs
set-same [] t x e = refl
set-same (y ∷ ys) zero x e = let h : y ≡ x = cc in ap (λ z. z ∷ ys) (sym h)
set-same (y ∷ ys) (suc t) x e = ap (λ zs. y ∷ zs) (set-same ys t x e)

-- the thread put back as it was
put-same : (c : Config) (t : ℕ) (h : Thread) → slice_get c.threads t ≡ Some h
    → with_step c t (record { objects = c.objects; calls = h.calls; mode = h.mode; started = None }) ≡ c
put-same c t h e =
    ap (λ (ts : List Thread). record { objects = c.objects; threads = ts }) (append-nil (slice_set c.threads t h) ∙ set-same c.threads t h e)

step-there : (p : Program) (c : Config) (t : ℕ) (h : Thread) → slice_get c.threads t ≡ Some h
    → thread_step p t c.objects h h.calls ≡ record { objects = c.objects; calls = h.calls; mode = h.mode; started = None } → step p c t ≡ c
step-there p c t h e m = ap (step_of p c t) e ∙ ap (with_step c t) m ∙ put-same c t h e

pub absent-same : (p : Program) (c : Config) (t : ℕ) → slice_get c.threads t ≡ None → step p c t ≡ c
absent-same p c t e = ap (step_of p c t) e

thread_step-over : (p : Program) (t : ℕ) (os : List Obj) (h : Thread) (cs : List Call) → h.mode ≡ mode.Over
    → thread_step p t os h cs ≡ record { objects = os; calls = cs; mode = h.mode; started = None }
thread_step-over p t os h [] e = refl
thread_step-over p t os h (c ∷ cs) e =
    ap (call_step p t (record { objects = os; call = c; below = cs })) e
    ∙ ap (λ (m : Mode). record { objects = os; calls = c ∷ cs; mode = m; started = None }) (sym e)

pub over-same : (p : Program) (c : Config) (t : ℕ) (h : Thread) → slice_get c.threads t ≡ Some h → h.mode ≡ mode.Over → step p c t ≡ c
over-same p c t h e m = step-there p c t h e (thread_step-over p t c.objects h h.calls m)

blocked-next : (p : Program) (t : ℕ) (f : Frame) (k : Code) (ts : List Value) (r : ℕ) → entered_next k ts ≡ Some r
    → blocks t (slice_get f.objects r) ≡ true → running_step p t (with_rest (with_temps f ts) k) k ≡ goes_on (with_rest (with_temps f ts) k)
blocked-next p t f Done ts r e b = absurd (let no : ⊥ = cc in no)
blocked-next p t f (Do n i k) ts r e b = absurd (let no : ⊥ = cc in no)
blocked-next p t f (If n x y k) ts r e b = absurd (let no : ⊥ = cc in no)
blocked-next p t f (While n x y k) ts r e b = absurd (let no : ⊥ = cc in no)
blocked-next p t f (Enter n x k) [] r e b = absurd (let no : ⊥ = cc in no)
blocked-next p t f (Enter n x k) (value.Int i ∷ ts) r e b = absurd (let no : ⊥ = cc in no)
blocked-next p t f (Enter n x k) (value.Bool i ∷ ts) r e b = absurd (let no : ⊥ = cc in no)
blocked-next p t f (Enter n x k) (value.Str i ∷ ts) r e b = absurd (let no : ⊥ = cc in no)
blocked-next p t f (Enter n x k) (value.Null ∷ ts) r e b = absurd (let no : ⊥ = cc in no)
blocked-next p t f (Enter n x k) (value.Ref o ∷ ts) r e b =
    let same : o ≡ r = cc in
    let b2 : blocks t (slice_get f.objects o) ≡ true = ap (λ q. blocks t (slice_get f.objects q)) same ∙ b in
    ap (λ (d : Bool). if d then goes_on (with_temps (with_rest f (Enter n x k)) (value.Ref o ∷ ts))
    else take_monitor t (with_temps (with_rest f k) ts) n x o (slice_get f.objects o)) b2
blocked-next p t f (EnterClass n c x k) ts r e b =
    let same : c ≡ r = cc in
    let b2 : blocks t (slice_get f.objects c) ≡ true = ap (λ q. blocks t (slice_get f.objects q)) same ∙ b in
    ap (λ (d : Bool). if d then goes_on (with_rest (with_temps f ts) (EnterClass n c x k))
    else take_monitor t (with_rest (with_temps f ts) k) n x c (slice_get f.objects c)) b2
blocked-next p t f (Exit n o k) ts r e b = absurd (let no : ⊥ = cc in no)

pub blocked-same : (p : Program) (c : Config) (t : ℕ) (h : Thread) (call : Call) (below : List Call) (r : ℕ)
    → IsBlocked c t h call below r → step p c t ≡ c
blocked-same p c t h call below r b =
    step-there p c t h b.there
    (ap (thread_step p t c.objects h) b.calls
    ∙ ap (call_step p t (record { objects = c.objects; call = call; below = below })) b.running
    ∙ blocked-next p t (record { objects = c.objects; call = call; below = below }) call.rest call.temps r b.enters b.owned
    ∙ ap (λ (cs : List Call). record { objects = c.objects; calls = cs; mode = mode.Running; started = None }) (sym b.calls)
    ∙ ap (λ (m : Mode). record { objects = c.objects; calls = h.calls; mode = m; started = None }) (sym b.running))
