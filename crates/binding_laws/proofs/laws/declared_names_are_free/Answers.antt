use Rattle.binding_laws.proofs.FreeNames.{read-names-free, free-names-declare-none}
use Rattle.binding_laws.proofs.laws.declared_names_are_free.Goals as goal

pub returns-clause-read : goal.returns-clause-read
returns-clause-read c = read-names-free

pub returns-clause-seen : goal.returns-clause-seen
returns-clause-seen c = free-names-declare-none
