use Rattle.binding_types.proofs.Bodies.{bodies-typed}
use Rattle.binding_types.proofs.laws.bound_bodies_are_typed.Goals as goal

pub returns : goal.returns
returns c = bodies-typed
