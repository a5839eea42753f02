-- Parameters as they are gone through.
use Rattle.std.proofs.Common.{◌≡◌, ℕ, ◌+◌, ◌<◌, List, ◌∷◌, ◌++◌, length, drop, get_or, sym, ap, ◌∙◌, append_assoc}
use Rattle.desk_base.specs.declared.span.Span.{Span}
use Rattle.java_tree.specs.declared.member.Param.{Param}
use Rattle.name_rules.specs.declared.note.Note.{Note}
use Rattle.name_rules.specs.declared.scope.Entry.{Entry}
use Rattle.name_rules.specs.Types.{Types}
use Rattle.name_rules.specs.Scopes.{Scope, with_entry}
use Rattle.unit_rules.proofs.Lists.{drop_one}
use Rattle.binder.specs.Params.{param_entry, param_notes, params_notes, params_scope}

next_scope : (n m : ℕ) (scope next : Scope) (p : Param) (e : Entry) → m ≡ n + 1 → e ≡ param_entry n p → next ≡ with_entry scope e → (ps : List Param)
    → params_scope n scope (p ∷ ps) ≡ params_scope m next ps
next_scope n m scope next p e number made put ps =
    ap (λ k. params_scope k (with_entry scope (param_entry n p)) ps) (sym number)
    ∙ (ap (λ x. params_scope m (with_entry scope x) ps) (sym made) ∙ ap (λ s. params_scope m s ps) (sym put))

pub scope_step : (ps : List Param) (i : ℕ) (p : Param) (n m : ℕ) (scope next all : Scope) (e : Entry) → i < length ps → p ≡ get_or ps i p
    → m ≡ n + 1 → e ≡ param_entry n p → next ≡ with_entry scope e → params_scope n scope (drop i ps) ≡ all → params_scope m next (drop (i + 1) ps) ≡ all
scope_step ps i p n m scope next all e less is number made put before =
    sym (ap (params_scope n scope) (drop_one ps i p less is) ∙ next_scope n m scope next p e number made put (drop (i + 1) ps)) ∙ before

next_notes : (types : Types) (number : Span → ℕ) (n m : ℕ) (scope next : Scope) (p : Param) (e : Entry) → m ≡ n + 1 → e ≡ param_entry n p → next ≡ with_entry scope e
    → (ps : List Param) → params_notes types number n scope (p ∷ ps) ≡ param_notes types number scope p ++ params_notes types number m next ps
next_notes types number n m scope next p e is made put ps =
    ap (λ k. param_notes types number scope p ++ params_notes types number k (with_entry scope (param_entry n p)) ps) (sym is)
    ∙ (ap (λ x. param_notes types number scope p ++ params_notes types number m (with_entry scope x) ps) (sym made)
    ∙ ap (λ s. param_notes types number scope p ++ params_notes types number m s ps) (sym put))

pub notes_step : (types : Types) (number : Span → ℕ) (ps : List Param) (i : ℕ) (p : Param) (n m : ℕ) (scope next : Scope) (e : Entry) (old new all : List Note)
    → i < length ps → p ≡ get_or ps i p → m ≡ n + 1 → e ≡ param_entry n p → next ≡ with_entry scope e → new ≡ old ++ param_notes types number scope p
    → old ++ params_notes types number n scope (drop i ps) ≡ all → new ++ params_notes types number m next (drop (i + 1) ps) ≡ all
notes_step types number ps i p n m scope next e old new all less is count made put noted before =
    ap (λ l. l ++ params_notes types number m next (drop (i + 1) ps)) noted
    ∙ (append_assoc old (param_notes types number scope p) (params_notes types number m next (drop (i + 1) ps))
    ∙ (ap (λ l. old ++ l) (sym (ap (params_notes types number n scope) (drop_one ps i p less is)
    ∙ next_notes types number n m scope next p e count made put (drop (i + 1) ps))) ∙ before))
