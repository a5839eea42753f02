use Rattle.binding_types.proofs.Units.{units-typed}
use Rattle.binding_types.proofs.laws.bound_units_are_typed.Goals as goal

pub returns : goal.returns
returns c = units-typed
