use Rattle.std.proofs.Common.{take}
use Rattle.region_tree.specs.Names.{Numbered}
use Rattle.region_tree.proofs.names.number_names.Given as goal

-- the regions so far
abbrev pub invariant-loop-i : goal.invariant-loop-i
invariant-loop-i l = Numbered l.numbers (take l.i l.declared)
