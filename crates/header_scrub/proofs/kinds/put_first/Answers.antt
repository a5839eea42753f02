use Rattle.std.proofs.Common.{sym}
use Rattle.header_scrub.proofs.Gathering.{inserted_first, none_of}
use Rattle.header_scrub.proofs.kinds.put_first.Goals as goal

pub returns-in_ok-insert : goal.returns-in_ok-insert
returns-in_ok-insert c =
    inserted_first c.args.kinds.now c.insert.new.self c.args.name c.args.is_static c.in_ok-insert.ensures.updates (none_of _ (sym c.if-not-contains_key.ensures))
