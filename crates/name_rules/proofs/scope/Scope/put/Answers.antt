use Rattle.std.proofs.Common.{◌≡◌, List, length, false, sym, ◌∙◌, ap, subst}
use Rattle.name_rules.specs.declared.scope.Entry.{Entry}
use Rattle.name_rules.specs.Named.{IsNamed}
use Rattle.name_rules.specs.Scopes.{in_scope}
use Rattle.name_rules.proofs.Naming.{with_last, with_place}
use Rattle.name_rules.proofs.scope.Scope.put.Goals as goal

pub invariant_of-self-in_err-push : goal.invariant_of-self-in_err-push
invariant_of-self-in_err-push c =
    let items = c.self.inside.entries.items in
    let free : in_scope items c.args.entry.name ≡ false = ap (λ (s : List Entry). in_scope s c.args.entry.name) c.self.view_is ∙ sym c.has.ensures ∙ c.if-has.false in
    subst (λ (s : List Entry). IsNamed c.insert.new.self s) (sym c.in_err-push.ensures.items)
    (with_place c.self.inside.places c.insert.new.self items c.in_ok-name.name c.len-place.result c.in_ok-insert.ensures.updates (ap (in_scope items) c.in_ok-name.ensures.cases ∙ free) c.self.invariant)

pub invariant_of-self-2 : goal.invariant_of-self-2
invariant_of-self-2 c =
    let items = c.self.inside.entries.items in
    let free : in_scope items c.args.entry.name ≡ false = ap (λ (s : List Entry). in_scope s c.args.entry.name) c.self.view_is ∙ sym c.has.ensures ∙ c.if-has.false in
    subst (λ (s : List Entry). IsNamed c.insert.new.self s) (sym c.in_ok-push.ensures.items)
    (with_last c.self.inside.places c.insert.new.self items c.in_ok-name.name c.len-place.result c.args.entry c.in_ok-insert.ensures.updates (c.len-place.ensures ∙ ap (λ (s : List Entry). length s) (sym c.self.view_is)) c.in_ok-name.ensures.cases free c.self.invariant)
