use Rattle.std.proofs.Common.{◌≡◌, ◌≤◌, List, length, refl, sym, ◌∙◌, ap, subst}
use Rattle.std.specs.List.{slice_get}
use Rattle.std.specs.Option.{option_copied}
use Rattle.std.specs.Prelude.{Some, None}
use Rattle.std.proofs.lemmas.Option.{slice_get_past, slice_get_read}
use Rattle.name_rules.specs.declared.scope.Entry.{Entry}
use Rattle.name_rules.specs.Named.{IsNamed}
use Rattle.name_rules.proofs.Naming.{none_there, not_placed, other_there, placed}
use Rattle.name_rules.proofs.scope.Scope.entry.Goals as goal

pub returns-in_err-place : goal.returns-in_err-place
returns-in_err-place c =
    let named : IsNamed c.self.inside.places c.args.self.now = subst (λ (s : List Entry). IsNamed c.self.inside.places s) c.self.view_is c.self.invariant in
    ap option_copied c.from_residual.ensures
    ∙ sym (not_placed c.self.inside.places c.args.self.now c.args.name.now named (sym c.in_err-place.ensures.value))

pub returns-in_err-entry : goal.returns-in_err-entry
returns-in_err-entry c =
    let named : IsNamed c.self.inside.places c.args.self.now = subst (λ (s : List Entry). IsNamed c.self.inside.places s) c.self.view_is c.self.invariant in
    let past : length c.args.self.now ≤ c.in_ok-place.place.now = subst (λ (s : List Entry). length s ≤ c.in_ok-place.place.now) (c.deref.ensures.value ∙ c.self.view_is) c.in_err-entry.ensures.lookup.3 in
    ap option_copied c.from_residual-in_err-entry.ensures
    ∙ sym (none_there c.self.inside.places c.args.self.now c.args.name.now c.in_ok-place.place.now named (sym c.in_ok-place.ensures.value)
    (slice_get_past c.args.self.now c.in_ok-place.place.now past))

pub returns-then-eq : goal.returns-then-eq
returns-then-eq c =
    let named : IsNamed c.self.inside.places c.args.self.now = subst (λ (s : List Entry). IsNamed c.self.inside.places s) c.self.view_is c.self.invariant in
    let there : slice_get c.args.self.now c.in_ok-place.place.now ≡ Some c.in_ok-entry.entry.now =
    subst (λ (s : List Entry). slice_get s c.in_ok-place.place.now ≡ Some c.in_ok-entry.entry.now) (c.deref.ensures.value ∙ c.self.view_is)
    (slice_get_read c.deref.result.now (length c.deref.result.now) c.in_ok-place.place.now c.in_ok-entry.entry.now refl c.in_ok-entry.ensures.lookup.3.0 c.in_ok-entry.ensures.lookup.1) in
    sym (placed c.self.inside.places c.args.self.now c.args.name.now c.in_ok-place.place.now c.in_ok-entry.entry.now named (sym c.in_ok-place.ensures.value) there (sym c.if-eq.ensures))

pub returns-else-eq : goal.returns-else-eq
returns-else-eq c =
    let named : IsNamed c.self.inside.places c.args.self.now = subst (λ (s : List Entry). IsNamed c.self.inside.places s) c.self.view_is c.self.invariant in
    let there : slice_get c.args.self.now c.in_ok-place.place.now ≡ Some c.in_ok-entry.entry.now =
    subst (λ (s : List Entry). slice_get s c.in_ok-place.place.now ≡ Some c.in_ok-entry.entry.now) (c.deref.ensures.value ∙ c.self.view_is)
    (slice_get_read c.deref.result.now (length c.deref.result.now) c.in_ok-place.place.now c.in_ok-entry.entry.now refl c.in_ok-entry.ensures.lookup.3.0 c.in_ok-entry.ensures.lookup.1) in
    sym (other_there c.self.inside.places c.args.self.now c.args.name.now c.in_ok-place.place.now c.in_ok-entry.entry.now named (sym c.in_ok-place.ensures.value) there (sym c.if-eq.ensures))
