use Rattle.std.proofs.Common.{sym}
use Rattle.region_tree.proofs.Numbers.{inserted_first, none_of}
use Rattle.region_tree.proofs.names.put_first.Goals as goal

pub returns-in_ok-insert : goal.returns-in_ok-insert
returns-in_ok-insert c =
    inserted_first c.args.numbers.now c.insert.new.self c.args.name c.args.number c.in_ok-insert.ensures.updates
    (none_of _ (sym c.if-not-contains_key.ensures))
