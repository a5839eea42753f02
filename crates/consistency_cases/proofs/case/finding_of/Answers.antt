use Rattle.consistency_cases.proofs.case.finding_of.Goals as goal

pub returns : goal.returns
returns c = record { on = c.in_ok-on.ensures; ways = c.in_ok-alternatives.ensures }
