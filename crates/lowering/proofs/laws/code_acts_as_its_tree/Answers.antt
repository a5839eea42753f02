use Rattle.std.proofs.Common.{IsTrue}
use Rattle.lowering.specs.Residue.{CoreActed}
use Rattle.lowering.proofs.Acts.{stmt-acts, part-acts}
use Rattle.lowering.proofs.Stepping.{steps-are-acts}
use Rattle.lowering.proofs.Residues.{numbers-keep-acts, numbered-unmarked, acts-along}
use Rattle.lowering.proofs.laws.code_acts_as_its_tree.Goals as goal

pub returns-clause-statement : goal.returns-clause-statement
returns-clause-statement c = stmt-acts

pub returns-clause-unit : goal.returns-clause-unit
returns-clause-unit c u = part-acts u.class u.part

pub returns-clause-steps : goal.returns-clause-steps
returns-clause-steps c = steps-are-acts

pub returns-clause-numbers : goal.returns-clause-numbers
returns-clause-numbers c = numbers-keep-acts

pub returns-clause-unmarked : goal.returns-clause-unmarked
returns-clause-unmarked c = numbered-unmarked

pub returns-clause-left : goal.returns-clause-left
returns-clause-left c test s k rest u h = acts-along (λ (a : CoreActed). IsTrue (test a)) s k rest u h
