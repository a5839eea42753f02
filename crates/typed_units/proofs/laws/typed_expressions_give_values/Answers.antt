use Rattle.typed_units.proofs.Giving.{typed-gives}
use Rattle.typed_units.proofs.laws.typed_expressions_give_values.Goals as goal

pub returns : goal.returns
returns c = typed-gives
