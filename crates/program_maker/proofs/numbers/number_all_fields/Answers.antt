use Rattle.std.proofs.Common.{subst}
use Rattle.program_maker.specs.Naming.{field_place}
use Rattle.program_maker.specs.Numbered.{HasNumbers}
use Rattle.program_maker.proofs.Fielding.{fields_more}
use Rattle.program_maker.proofs.numbers.number_all_fields.Goals as goal

pub loop-surface-preserved : goal.loop-surface-preserved
loop-surface-preserved c =
    fields_more c.args.surfaces.now c.loop-surface.surface-index c.surface-item.result c.loop-surface.numbers c.push.new.self c.in_ok-number_fields.field-0
    c.loop-surface-test.true c.surface-item.is c.loop-surface.invariant
    (subst (λ fields. HasNumbers c.in_ok-number_fields.field-0 (field_place fields)) c.as_slice.ensures c.in_ok-number_fields.ensures) c.in_ok-push.ensures.ok
