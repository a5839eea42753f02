use Rattle.std.proofs.Common.{◌≡◌, [], drop}
use Rattle.core_model.specs.Objects as spec
use Rattle.core_model.specs.Filling.{all_filled}
use Rattle.core_model.proofs.make.Filling.of_fields.Given as goal

abbrev pub invariant-loop-field : goal.invariant-loop-field
invariant-loop-field l =
    all_filled l.filling (spec.initials l.is_static (drop l.field-index l.fields))
    ≡ all_filled (record { values = []; next = l.from }) (spec.initials l.is_static l.fields)
