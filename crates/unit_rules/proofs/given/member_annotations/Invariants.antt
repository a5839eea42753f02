use Rattle.std.proofs.Common.{◌≡◌, ◌++◌, drop}
use Rattle.unit_rules.specs.Given.{all_written, each_at, member_annotation}
use Rattle.unit_rules.proofs.given.member_annotations.Given as goal

-- those so far and those of what is left are all
abbrev pub invariant-loop-i : goal.invariant-loop-i
invariant-loop-i l = all_written l.list ++ each_at (member_annotation l.member) (drop l.i l.marks) (drop l.i l.places) ≡ each_at (member_annotation l.member) l.marks l.places
