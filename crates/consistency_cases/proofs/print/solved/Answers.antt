use Rattle.consistency_cases.proofs.print.solved.Goals as goal

pub graph_of-requires-clause-among : goal.graph_of-requires-clause-among
graph_of-requires-clause-among c = rw c.deref.ensures.value c.in_ok-findings.ensures
