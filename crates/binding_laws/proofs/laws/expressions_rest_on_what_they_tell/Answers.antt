use Rattle.binding_laws.proofs.AskedTypes.{types-asked}
use Rattle.binding_laws.proofs.OneExpression.{one_answer}
use Rattle.binding_laws.proofs.laws.expressions_rest_on_what_they_tell.Goals as goal

pub returns-clause-types : goal.returns-clause-types
returns-clause-types c = types-asked

pub returns-clause-one : goal.returns-clause-one
returns-clause-one c = one_answer
