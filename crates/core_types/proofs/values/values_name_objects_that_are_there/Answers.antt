use Rattle.core_types.proofs.Present.{in-field, in-local, in-temporary, in-gives, in-result}
use Rattle.core_types.proofs.values.values_name_objects_that_are_there.Goals as goal

pub returns-clause-fields : goal.returns-clause-fields
returns-clause-fields c = in-field

pub returns-clause-locals : goal.returns-clause-locals
returns-clause-locals c = in-local

pub returns-clause-temporaries : goal.returns-clause-temporaries
returns-clause-temporaries c = in-temporary

pub returns-clause-given : goal.returns-clause-given
returns-clause-given c = in-gives

pub returns-clause-results : goal.returns-clause-results
returns-clause-results c = in-result
