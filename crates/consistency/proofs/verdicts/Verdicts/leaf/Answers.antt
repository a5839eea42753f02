use Rattle.std.proofs.Common.{sym}
use Rattle.consistency.proofs.Answering.{leaf_answers}
use Rattle.consistency.proofs.verdicts.Verdicts.leaf.Goals as goal

pub returns-in-Some : goal.returns-in-Some
returns-in-Some c = λ ps fs is. leaf_answers ps fs c.args.self.now is c.args.key.now c.in-Some.row.now (sym c.in-Some.ensures) c.as_ref.result c.as_ref.ensures.value
