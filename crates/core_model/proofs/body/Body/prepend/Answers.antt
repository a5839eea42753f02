use Rattle.std.proofs.Common.{ap, ◌∙◌}
use Rattle.core_model.specs.Code.{Done, ◌⧺◌}
use Rattle.core_model.specs.CodeOf.{code_onto}
use Rattle.core_model.proofs.Codes.{onto-append, onto-front}
use Rattle.core_model.proofs.body.Body.prepend.Goals as goal

pub returns : goal.returns
returns c =
    ap (code_onto Done) c.in_ok-append.ensures ∙ onto-append Done c.self.inside.instrs c.front.inside.instrs
    ∙ onto-front (code_onto Done c.self.inside.instrs) c.front.inside.instrs
    ∙ ap (λ s. s ⧺ code_onto Done c.self.inside.instrs) c.front.view_is
    ∙ ap (λ s. c.args.front ⧺ s) c.self.view_is
