use Rattle.core_types.proofs.Outcomes.{ends-by-fault, never-ends, over-by-leaving}
use Rattle.core_types.proofs.ending.threads_end_by_faults.Goals as goal

pub returns-clause-ends : goal.returns-clause-ends
returns-clause-ends c = ends-by-fault

pub returns-clause-leaves : goal.returns-clause-leaves
returns-clause-leaves c = never-ends

pub returns-clause-over : goal.returns-clause-over
returns-clause-over c = over-by-leaving
