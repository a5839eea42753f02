use Rattle.std.proofs.Common.{◌<◌}
use Rattle.std.specs.List.{AllAdjacentBelow}
use Rattle.project_judge.proofs.PromiseOrder.{Before}
use Rattle.project_judge.proofs.sound.are_apart.Given as goal

-- each promise so far comes before the next
abbrev pub invariant-loop-i : goal.invariant-loop-i
invariant-loop-i l = record {
  first : 0 < l.i;
  rising : AllAdjacentBelow Before l.promises l.i;
}
