use Rattle.binder.proofs.Single.{one_unit}
use Rattle.binder.proofs.laws.one_bound_unit.Goals as goal

pub returns : goal.returns
returns c = one_unit
