use Rattle.bound_tree.proofs.Claims.{walked-seen, seen-under, seen-both, nothing-held}
use Rattle.bound_tree.proofs.laws.claims_run_along.Goals as goal

pub returns-clause-walk : goal.returns-clause-walk
returns-clause-walk c = walked-seen

pub returns-clause-inwards : goal.returns-clause-inwards
returns-clause-inwards c = seen-under

pub returns-clause-parts : goal.returns-clause-parts
returns-clause-parts c = seen-both

pub returns-clause-alone : goal.returns-clause-alone
returns-clause-alone c = nothing-held
