use Rattle.std.proofs.Common.{◌≡◌, ◌++◌, drop}
use Rattle.std.specs.List.{flat_map}
use Rattle.views.specs.Face.{face}
use Rattle.unit_rules.specs.Consulted.{told_names}
use Rattle.unit_rules.proofs.consulted.put_all_told.Given as goal

-- those so far and those of what is left are all
abbrev pub invariant-loop-note : goal.invariant-loop-note
invariant-loop-note l = l.names ++ flat_map (told_names (face l.view)) (drop l.note-index l.notes) ≡ l.fn.names ++ flat_map (told_names (face l.view)) l.notes
