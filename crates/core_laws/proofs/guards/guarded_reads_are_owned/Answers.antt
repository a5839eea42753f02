use Rattle.core_laws.proofs.Guarded.{owned}
use Rattle.core_laws.proofs.guards.guarded_reads_are_owned.Goals as goal

pub returns : goal.returns
returns c = owned
