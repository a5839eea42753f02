use Rattle.core_laws.proofs.Making.{constructed, left-gives, made-by-unit}
use Rattle.core_laws.proofs.constructors.constructors_have_their_object.Goals as goal

pub returns-clause-this : goal.returns-clause-this
returns-clause-this c = constructed

pub returns-clause-made : goal.returns-clause-made
returns-clause-made c = made-by-unit

pub returns-clause-given : goal.returns-clause-given
returns-clause-given c = left-gives
