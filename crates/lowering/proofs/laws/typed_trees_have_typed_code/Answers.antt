use Rattle.lowering.specs.Kinds.{types_asked}
use Rattle.lowering.proofs.Generic.{part-good}
use Rattle.lowering.proofs.Endings.{part-ends}
use Rattle.lowering.proofs.LiveReads.{unit-reads}
use Rattle.lowering.proofs.laws.typed_trees_have_typed_code.Goals as goal

pub returns-clause-fits : goal.returns-clause-fits
returns-clause-fits c p T u r tree h = (part-good (types_asked p T u r) tree.class tree.part h).fits

pub returns-clause-needs : goal.returns-clause-needs
returns-clause-needs c p T u r tree h = (part-good (types_asked p T u r) tree.class tree.part h).needs

pub returns-clause-reads : goal.returns-clause-reads
returns-clause-reads c = unit-reads

pub returns-clause-ends : goal.returns-clause-ends
returns-clause-ends c p T u r tree h = part-ends (types_asked p T u r) tree.class tree.part h
