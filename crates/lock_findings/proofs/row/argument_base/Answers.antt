use Rattle.std.proofs.Common.{sym, ◌∙◌}
use Rattle.bound_tree.specs.Claims.{varies_in}
use Rattle.lock_findings.proofs.Arguments.{argument-there, argument-not}
use Rattle.lock_findings.proofs.row.argument_base.Goals as goal

pub returns-in-Some : goal.returns-in-Some
returns-in-Some c =
    let a = c.args in
    c.local_claim.ensures ∙ sym (argument-there (varies_in a.varies.now) a.args.now a.number c.in-Some.argument.now (sym c.in-Some.ensures))

pub returns-in-None : goal.returns-in-None
returns-in-None c = let a = c.args in sym (argument-not (varies_in a.varies.now) a.args.now a.number (sym c.in-None.ensures))
