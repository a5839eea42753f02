use Rattle.lowering.proofs.Flows.{statement-flow, unit-flow}
use Rattle.lowering.proofs.laws.code_flows_as_its_tree.Goals as goal

pub returns-clause-statement : goal.returns-clause-statement
returns-clause-statement c = statement-flow

pub returns-clause-unit : goal.returns-clause-unit
returns-clause-unit c = unit-flow
