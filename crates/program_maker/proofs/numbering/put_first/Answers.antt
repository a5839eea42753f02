use Rattle.program_maker.proofs.Placing.{puts_new}
use Rattle.program_maker.proofs.numbering.put_first.Goals as goal

pub returns-in_ok-insert : goal.returns-in_ok-insert
returns-in_ok-insert c = puts_new c.args.numbers.now c.insert.new.self c.args.name c.args.number c.in_ok-insert.ensures.updates (cc c.contains_key.ensures)
