use Rattle.std.proofs.Common.{◌≡◌, ◌∙◌, ap, sym, rules}
use Rattle.std.specs.Option.{option_copied}
use Rattle.program_maker.specs.Numbered.{number_at}
use Rattle.program_maker.proofs.Meeting.{unit_absent, unit_found, copied_at}
use Rattle.program_maker.proofs.classes.unit_keyed.Goals as goal

pub returns-in_err-place : goal.returns-in_err-place
returns-in_err-place c =
    let k : c.as_bytes.result.now ≡ c.args.key.now = search rules in
    ap option_copied c.from_residual.ensures
    ∙ sym (unit_absent c.args.units.now c.args.key.now
    (sym (c.requires.has c.args.key.now) ∙ ap (number_at c.args.numbers.now.units) (sym k) ∙ sym c.number_of.ensures ∙ c.in_err-place.was))

pub returns : goal.returns
returns c =
    let k : c.as_bytes.result.now ≡ c.args.key.now = search rules in
    let h = c.get.ensures.lookup in
    ap option_copied (c.copied.ensures ∙ copied_at c.args.units.now c.in_ok-place.field-0 c.get.result h.3 h.1)
    ∙ unit_found c.args.units.now c.args.key.now c.in_ok-place.field-0
    (sym (c.requires.has c.args.key.now) ∙ ap (number_at c.args.numbers.now.units) (sym k) ∙ sym c.number_of.ensures ∙ c.in_ok-place.was)
