use Rattle.std.proofs.Common.{ap, ◌∙◌, ◌∷◌, []}
use Rattle.lowering.specs.Code.{Done}
use Rattle.lowering.specs.CodeOf.{before, code_onto}
use Rattle.lowering.proofs.Codes.{onto-append}
use Rattle.lowering.proofs.code.NamedCode.push.Goals as goal

pub returns : goal.returns
returns c =
    ap (code_onto Done) c.in_ok-push.ensures.ok ∙ onto-append Done c.self.inside.instrs (c.args.instr ∷ [])
    ∙ ap (before c.args.instr) c.self.view_is
