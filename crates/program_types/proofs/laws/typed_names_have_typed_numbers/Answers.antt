use Rattle.program_types.proofs.Giving.{fits}
use Rattle.program_types.proofs.Coding.{code-typed}
use Rattle.program_types.proofs.Trees.{tree-typed}
use Rattle.program_types.proofs.laws.typed_names_have_typed_numbers.Goals as goal

pub returns-clause-statement : goal.returns-clause-statement
returns-clause-statement c p T u r f varies s n same result h = fits p T u r f n same result varies s h

pub returns-clause-unit : goal.returns-clause-unit
returns-clause-unit c = tree-typed

pub returns-clause-code : goal.returns-clause-code
returns-clause-code c = code-typed
