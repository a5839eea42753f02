use Rattle.std.proofs.Common.{◌≡◌, ◌++◌, drop}
use Rattle.unit_rules.specs.Given.{all_written, each_at, header_annotation}
use Rattle.unit_rules.proofs.given.header_annotations.Given as goal

-- those so far and those of what is left are all
abbrev pub invariant-loop-i : goal.invariant-loop-i
invariant-loop-i l = all_written l.list ++ each_at (header_annotation l.class) (drop l.i l.marks) (drop l.i l.places) ≡ each_at (header_annotation l.class) l.marks l.places
