use Rattle.core_laws.proofs.Marked.{marked-owner, counted-whole}
use Rattle.core_laws.proofs.monitors.marks_tell_owners.Goals as goal

pub returns-clause-counted : goal.returns-clause-counted
returns-clause-counted c = counted-whole

pub returns-clause-owner : goal.returns-clause-owner
returns-clause-owner c = marked-owner
