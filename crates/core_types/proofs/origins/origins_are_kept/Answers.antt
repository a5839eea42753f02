use Rattle.core_types.proofs.Coming.{come, taken-from}
use Rattle.core_types.proofs.origins.origins_are_kept.Goals as goal

pub returns-clause-temporaries : goal.returns-clause-temporaries
returns-clause-temporaries c = come

pub returns-clause-taken : goal.returns-clause-taken
returns-clause-taken c = taken-from
