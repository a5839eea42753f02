use Rattle.std.proofs.Common.{◌≡◌, drop, slice_get}
use Rattle.core_model.specs.Objects.{of_kind}
use Rattle.core_model.proofs.access.field_of_kind.Given as goal

abbrev pub invariant-loop-field : goal.invariant-loop-field
invariant-loop-field l =
    slice_get (of_kind l.is_static (drop l.field-index l.fields)) l.left
    ≡ slice_get (of_kind l.is_static l.fields) l.number
