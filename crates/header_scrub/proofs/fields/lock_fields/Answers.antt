use Rattle.header_scrub.proofs.Looking.{fields_more}
use Rattle.header_scrub.proofs.fields.lock_fields.Goals as goal

pub loop-field-preserved : goal.loop-field-preserved
loop-field-preserved c =
    fields_more c.args.fields.now c.loop-field.field-index c.field-item.result c.loop-field.known c.put_field.new.known
    c.loop-field-test.true c.field-item.is c.loop-field.invariant c.in_ok-put_field.ensures
