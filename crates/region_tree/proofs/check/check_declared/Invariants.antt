use Rattle.region_tree.specs.Faults.{AllGood}
use Rattle.region_tree.proofs.check.check_declared.Given as goal

abbrev pub invariant-loop-i : goal.invariant-loop-i
invariant-loop-i l = AllGood l.declared l.i
