use Rattle.binding_laws.proofs.OneBinding.{one-binding}
use Rattle.binding_laws.proofs.laws.units_are_bound_alike.Goals as goal

pub returns : goal.returns
returns c = one-binding c.one_unit.ensures.member c.one_unit.ensures.header
