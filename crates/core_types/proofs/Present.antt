-- Values of a well typed configuration name objects that are there.
use Rattle.std.proofs.Common.{◌≡◌, ℕ, true, List, [], ◌∷◌, Option, Some, None, slice_get, is_some, refl, sym, subst}
use Rattle.core_model.specs.Objects.{field_of, field_at}
use Rattle.core_model.specs.declared.program.Program.{Program}
use Rattle.core_model.specs.declared.object.Obj.{Obj}
use Rattle.core_model.specs.declared.config.Call.{Call}
use Rattle.core_model.specs.declared.config.Config.{Config}
use Rattle.core_model.specs.declared.config.Thread.{Thread}
use Rattle.core_model.specs.declared.config.Gives.TheVariants.{Object}
use Rattle.core_model.specs.declared.config.Mode.{Mode}
use Rattle.core_model.specs.declared.config.Mode.TheVariants as mode
use Rattle.core_model.specs.declared.value.Value.{Value}
use Rattle.core_model.specs.declared.value.Value.TheVariants as value
use Rattle.core_laws.specs.Places.{Each}
use Rattle.core_laws.specs.Shape.{kind_of}
use Rattle.core_laws.proofs.Lists.{each-get}
use Rattle.core_types.specs.Types.{Ty, AnyType, Types}
use Rattle.core_types.specs.Belonging.{if_kind, is_object, Belongs}
use Rattle.core_types.specs.Configs.{AllThere, GivesThere, IsThere, need_in, result_in, fields_types, ResultFits, CallsFit, ThreadFits, ConfigFits}
use Rattle.core_types.proofs.Numbers.{belongs-any, all-there, TempsThere, beneath-there}

object-there : (o : Option Obj) → if_kind (kind_of o) is_object ≡ true → is_some o ≡ true
object-there None h = absurd (let no : ⊥ = cc in no)
object-there (Some x) h = refl

ref-there : (T : Types) (os : List Obj) (q : ℕ) → Belongs T os (value.Ref q) AnyType → is_some (slice_get os q) ≡ true
ref-there T os q h = object-there (slice_get os q) h

value-there : (T : Types) (os : List Obj) (vs : List Value) (i q : ℕ) → AllThere T os vs → slice_get vs i ≡ Some (value.Ref q) → is_some (slice_get os q) ≡ true
value-there T os vs i q h e = ref-there T os q (each-get (λ (v : Value). Belongs T os v AnyType) vs i (value.Ref q) e h)

field-there : (p : Program) (T : Types) (c : Config) (r i q : ℕ) (o : Option Obj) → slice_get c.objects r ≡ o → ConfigFits p T c
    → field_of o i ≡ Some (value.Ref q) → is_some (slice_get c.objects q) ≡ true
field-there p T c r i q None e w h = absurd (let no : ⊥ = cc in no)
field-there p T c r i q (Some o) e w h =
    value-there T c.objects o.fields i q (all-there T c.objects o.fields (fields_types T o.kind) (w.fields r o e)) h

pub in-field : (p : Program) (T : Types) (c : Config) (r i q : ℕ) → ConfigFits p T c → field_at c.objects r i ≡ Some (value.Ref q)
    → is_some (slice_get c.objects q) ≡ true
in-field p T c r i q w h = field-there p T c r i q (slice_get c.objects r) refl w h

call-there : (p : Program) (T : Types) (c : Config) (t j : ℕ) (thread : Thread) (call : Call) → ConfigFits p T c → slice_get c.threads t ≡ Some thread
    → slice_get thread.calls j ≡ Some call → IsThere p T c.objects call
call-there p T c t j thread call w e f =
    each-get (λ (d : Call). IsThere p T c.objects d) thread.calls j call f
    (each-get (λ (h : Thread). Each (λ (d : Call). IsThere p T c.objects d) h.calls) c.threads t thread e w.there)

pub in-local : (p : Program) (T : Types) (c : Config) (t j i q : ℕ) (thread : Thread) (call : Call) → ConfigFits p T c → slice_get c.threads t ≡ Some thread
    → slice_get thread.calls j ≡ Some call → slice_get call.locals i ≡ Some (value.Ref q) → is_some (slice_get c.objects q) ≡ true
in-local p T c t j i q thread call w e f h = value-there T c.objects call.locals i q (call-there p T c t j thread call w e f).1 h

-- no temporaries at all
none-there : (T : Types) (os : List Obj) (ts : List Value) → ts ≡ [] → AllThere T os ts
none-there T os ts e = subst (AllThere T os) (sym e) tt

temps-there : (p : Program) (T : Types) (os : List Obj) (m : Mode) (cs : List Call) → CallsFit p T os m cs → Each (TempsThere T os) cs
temps-there p T os mode.Running [] h = tt
temps-there p T os mode.Running (c ∷ cs) h = (all-there T os c.temps (need_in p T c) h.0.1, beneath-there p T os c.gives (result_in T c) cs h.1)
temps-there p T os (mode.Leaving v) [] h = tt
temps-there p T os (mode.Leaving v) (c ∷ cs) h = (none-there T os c.temps h.1, beneath-there p T os c.gives (result_in T c) cs h.2)
temps-there p T os mode.Ending [] h = tt
temps-there p T os mode.Ending (c ∷ cs) h = (none-there T os c.temps h.0, h.1)
temps-there p T os mode.Over [] h = tt
temps-there p T os mode.Over (c ∷ cs) h = absurd h

pub in-temporary : (p : Program) (T : Types) (c : Config) (t j i q : ℕ) (thread : Thread) (call : Call) → ConfigFits p T c
    → slice_get c.threads t ≡ Some thread → slice_get thread.calls j ≡ Some call → slice_get call.temps i ≡ Some (value.Ref q)
    → is_some (slice_get c.objects q) ≡ true
in-temporary p T c t j i q thread call w e f h =
    let fits = each-get (λ (x : Thread). ThreadFits p T c.objects x) c.threads t thread e w.threads in
    value-there T c.objects call.temps i q
    (each-get (TempsThere T c.objects) thread.calls j call f (temps-there p T c.objects thread.mode thread.calls fits)) h

pub in-gives : (p : Program) (T : Types) (c : Config) (t j q : ℕ) (thread : Thread) (call : Call) → ConfigFits p T c → slice_get c.threads t ≡ Some thread
    → slice_get thread.calls j ≡ Some call → call.gives ≡ Object q → is_some (slice_get c.objects q) ≡ true
in-gives p T c t j q thread call w e f h =
    ref-there T c.objects q (subst (GivesThere T c.objects) h (call-there p T c t j thread call w e f).2)

result-there : (T : Types) (os : List Obj) (r : Option Ty) (q : ℕ) → ResultFits T os r (Some (value.Ref q)) → is_some (slice_get os q) ≡ true
result-there T os None q h = absurd h
result-there T os (Some t) q h = ref-there T os q (belongs-any T os (value.Ref q) t h)

leaving-there : (p : Program) (T : Types) (os : List Obj) (cs : List Call) (q : ℕ) → CallsFit p T os (mode.Leaving (Some (value.Ref q))) cs
    → is_some (slice_get os q) ≡ true
leaving-there p T os [] q h = absurd h
leaving-there p T os (c ∷ cs) q h = result-there T os (result_in T c) q h.0

pub in-result : (p : Program) (T : Types) (c : Config) (t q : ℕ) (thread : Thread) → ConfigFits p T c → slice_get c.threads t ≡ Some thread
    → thread.mode ≡ mode.Leaving (Some (value.Ref q)) → is_some (slice_get c.objects q) ≡ true
in-result p T c t q thread w e h =
    let fits = each-get (λ (x : Thread). ThreadFits p T c.objects x) c.threads t thread e w.threads in
    leaving-there p T c.objects thread.calls q (subst (λ (m : Mode). CallsFit p T c.objects m thread.calls) h fits)
