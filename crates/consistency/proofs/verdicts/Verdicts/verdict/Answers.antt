use Rattle.std.proofs.Common.{sym}
use Rattle.consistency.proofs.Answering.{present}
use Rattle.consistency.proofs.verdicts.Verdicts.verdict.Goals as goal

pub returns-in-Some : goal.returns-in-Some
returns-in-Some c = λ ps fs is.
    let p = present ps fs c.args.self.now is c.args.key.now c.in-Some.row.now (sym c.in-Some.ensures) in
    let j = p.1 in
    (p.0, j.verdict)
