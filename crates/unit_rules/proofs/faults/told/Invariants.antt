use Rattle.std.proofs.Common.{◌≡◌, ◌++◌, drop}
use Rattle.std.specs.List.{flat_map}
use Rattle.unit_rules.specs.Faults.{told_fault}
use Rattle.unit_rules.proofs.faults.told.Given as goal

-- those so far and those of what is left are all
abbrev pub invariant-loop-note : goal.invariant-loop-note
invariant-loop-note l = l.out ++ flat_map (told_fault l.key l.tokens) (drop l.note-index l.notes) ≡ flat_map (told_fault l.key l.tokens) l.notes
