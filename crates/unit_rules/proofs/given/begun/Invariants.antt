use Rattle.std.proofs.Common.{◌≡◌, ◌≤◌, ◌++◌, drop, length}
use Rattle.unit_rules.specs.Given.{all_written, begun}
use Rattle.unit_rules.proofs.given.begun.Given as goal

-- the places so far and those of what is left are all
abbrev pub invariant-loop-annotation : goal.invariant-loop-annotation
invariant-loop-annotation l = record {
  within : l.from ≤ length l.promises;
  places : l.out ++ begun (all_written (drop l.annotation-index l.annotations)) (drop l.from l.promises) ≡ begun (all_written l.annotations) l.promises;
}
