use Rattle.core_laws.proofs.Waits.{absent-same, over-same, blocked-same}
use Rattle.core_laws.proofs.waiting.waiting_changes_nothing.Goals as goal

pub returns-clause-absent : goal.returns-clause-absent
returns-clause-absent c = absent-same

pub returns-clause-over : goal.returns-clause-over
returns-clause-over c = over-same

pub returns-clause-blocked : goal.returns-clause-blocked
returns-clause-blocked c = blocked-same
