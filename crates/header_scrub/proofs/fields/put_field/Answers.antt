use Rattle.std.proofs.Common.{sym, refl}
use Rattle.header_scrub.proofs.Looking.{field_put, no_field}
use Rattle.header_scrub.proofs.fields.put_field.Goals as goal

pub returns-in_ok-insert : goal.returns-in_ok-insert
returns-in_ok-insert c =
    field_put c.args.known.now c.insert.new.self c.args.field.now c.in_ok-clone.field-0 _ c.in_ok-clone.ensures.cases refl
    c.in_ok-insert.ensures.updates (no_field _ (sym c.if-not-contains_key.ensures))
