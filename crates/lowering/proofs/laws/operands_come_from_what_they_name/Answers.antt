use Rattle.lowering.specs.Lower.{code_of}
use Rattle.lowering.specs.Numbers.{numbered}
use Rattle.lowering.specs.Kinds.{origins_asked}
use Rattle.lowering.proofs.Generic.{part-good}
use Rattle.lowering.proofs.ByOrigin.{part-fits}
use Rattle.lowering.proofs.Bares.{always-apart}
use Rattle.lowering.proofs.Residues.{numbered-unmarked}
use Rattle.lowering.proofs.Tables.{table-tells}
use Rattle.lowering.proofs.laws.operands_come_from_what_they_name.Goals as goal

pub returns-clause-fits : goal.returns-clause-fits
returns-clause-fits c p T O u r tree h o =
    (part-good (origins_asked p T O u r) tree.class tree.part (part-fits p T O u r tree.class tree.part h o)).fits

pub returns-clause-needs : goal.returns-clause-needs
returns-clause-needs c p T O u r tree h o =
    (part-good (origins_asked p T O u r) tree.class tree.part (part-fits p T O u r tree.class tree.part h o)).needs

pub returns-clause-apart : goal.returns-clause-apart
returns-clause-apart c p T O u r tree h o =
    always-apart p T O u (numbered r (code_of tree)) (numbered-unmarked r (code_of tree))
    (part-good (origins_asked p T O u r) tree.class tree.part (part-fits p T O u r tree.class tree.part h o)).fits
    (part-good (origins_asked p T O u r) tree.class tree.part (part-fits p T O u r tree.class tree.part h o)).bare

pub returns-clause-table : goal.returns-clause-table
returns-clause-table c tree d = table-tells tree.part d
