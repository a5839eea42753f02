use Rattle.std.proofs.Common.{sym, ◌∙◌, ap}
use Rattle.std.specs.List.{list_any}
use Rattle.judged_form.specs.Form.{stands_unjudged, aside_unjudged}
use Rattle.judged_form.proofs.Forms.{not_by_standing, not_by_aside, not_by_assumption, is_by_all}
use Rattle.judged_form.proofs.form.is_judged.Goals as goal

pub returns-then-any_stands : goal.returns-then-any_stands
returns-then-any_stands c =
    not_by_standing c.args.surface.now (ap (list_any stands_unjudged) (sym c.as_slice.ensures) ∙ sym c.any_stands.ensures ∙ c.if-any_stands.true)

pub returns-then-any_is_aside : goal.returns-then-any_is_aside
returns-then-any_is_aside c =
    not_by_aside c.args.surface.now (ap (list_any aside_unjudged) (sym c.as_slice-2.ensures) ∙ sym c.any_is_aside.ensures ∙ c.if-any_is_aside.true)

pub returns-then-not-is_empty : goal.returns-then-not-is_empty
returns-then-not-is_empty c = not_by_assumption c.args.surface.now c.is_empty.result c.is_empty.ensures c.if-not-is_empty.true

pub returns : goal.returns
returns c =
    is_by_all c.args.surface.now c.is_empty.result c.is_empty-2.result
    (ap (list_any stands_unjudged) (sym c.as_slice.ensures) ∙ sym c.any_stands.ensures ∙ c.if-any_stands.false)
    (ap (list_any aside_unjudged) (sym c.as_slice-2.ensures) ∙ sym c.any_is_aside.ensures ∙ c.if-any_is_aside.false)
    c.is_empty.ensures c.if-not-is_empty.false c.is_empty-2.ensures
