use Rattle.core_types.proofs.Reached.{reached-declared, reached-none}
use Rattle.core_types.proofs.reaching.fields_that_are_reached_are_declared.Goals as goal

pub returns-clause-declared : goal.returns-clause-declared
returns-clause-declared c = reached-declared

pub returns-clause-none : goal.returns-clause-none
returns-clause-none c = reached-none
