use Rattle.std.proofs.Common.{◌≡◌, ◌++◌, drop}
use Rattle.std.specs.List.{flat_map}
use Rattle.views.specs.Face.{face}
use Rattle.unit_rules.specs.Assumed.{annotation_notes}
use Rattle.unit_rules.specs.Given.{all_written}
use Rattle.unit_rules.proofs.assumed.put_assumptions.Given as goal

-- those so far and those of what is left are all
abbrev pub invariant-loop-annotation : goal.invariant-loop-annotation
invariant-loop-annotation l = l.notes ++ flat_map (annotation_notes (face l.view)) (all_written (drop l.annotation-index l.annotations)) ≡ l.fn.notes ++ flat_map (annotation_notes (face l.view)) (all_written l.annotations)
