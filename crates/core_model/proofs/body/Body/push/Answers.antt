use Rattle.std.proofs.Common.{ap, ◌∙◌, ◌∷◌, []}
use Rattle.core_model.specs.Code.{Done}
use Rattle.core_model.specs.CodeOf.{before, code_onto}
use Rattle.core_model.proofs.Codes.{onto-append}
use Rattle.core_model.proofs.body.Body.push.Goals as goal

pub returns : goal.returns
returns c =
    ap (code_onto Done) c.in_ok-push.ensures.ok ∙ onto-append Done c.self.inside.instrs (c.args.instr ∷ [])
    ∙ ap (before c.args.instr) c.self.view_is
