use Rattle.std.proofs.Common.{take}
use Rattle.header_scrub.specs.Fields.{HasFields}
use Rattle.header_scrub.proofs.fields.lock_fields.Given as goal

-- the fields so far
abbrev pub invariant-loop-field : goal.invariant-loop-field
invariant-loop-field l = HasFields l.known (take l.field-index l.fields)
