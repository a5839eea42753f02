use Rattle.std.proofs.Common.{◌≡◌, take}
use Rattle.program_maker.specs.Numbered.{lent}
use Rattle.program_maker.proofs.maker.copied_names.Given as goal

abbrev pub invariant-loop-name : goal.invariant-loop-name
invariant-loop-name l = l.copies ≡ lent (take l.name-index l.names)
