use Rattle.std.proofs.Common.{take}
use Rattle.program_maker.specs.Kept.{surfaces_lent}
use Rattle.program_maker.specs.Naming.{class_place}
use Rattle.program_maker.specs.Numbered.{HasNumbers}
use Rattle.program_maker.proofs.numbers.number_classes.Given as goal

abbrev pub invariant-loop-at : goal.invariant-loop-at
invariant-loop-at l = HasNumbers l.numbers (class_place (surfaces_lent (take l.at l.surfaces)))
