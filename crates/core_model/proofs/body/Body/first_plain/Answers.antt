use Rattle.std.proofs.Common.{◌-◌, ap, ◌∙◌, sym, length, List, slice_get}
use Rattle.core_model.specs.NextAccess.{first_plain}
use Rattle.core_model.specs.declared.body.Instr.{Instr}
use Rattle.core_model.proofs.Codes.{first-last}
use Rattle.core_model.proofs.body.Body.first_plain.Goals as goal

pub returns-in-Some : goal.returns-in-Some
returns-in-Some c =
    c.plain.ensures
    ∙ sym (first-last c.self.inside.instrs c.in-Some.instr.now
    (ap (λ (xs : List Instr). slice_get xs (length xs - 1)) (sym c.as_slice.ensures) ∙ sym c.in-Some.ensures.value))
    ∙ ap first_plain c.self.view_is
