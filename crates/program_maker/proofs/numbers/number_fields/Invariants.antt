use Rattle.std.proofs.Common.{◌≡◌, take, length, true, false}
use Rattle.program_maker.specs.Naming.{field_place, faces_of_kind}
use Rattle.program_maker.specs.Numbered.{HasNumbers}
use Rattle.program_maker.proofs.numbers.number_fields.Given as goal

abbrev pub invariant-loop-field : goal.invariant-loop-field
invariant-loop-field l = record {
  statics : l.statics ≡ length (faces_of_kind true (take l.field-index l.fields));
  others : l.others ≡ length (faces_of_kind false (take l.field-index l.fields));
  numbers : HasNumbers l.numbers (field_place (take l.field-index l.fields));
}
