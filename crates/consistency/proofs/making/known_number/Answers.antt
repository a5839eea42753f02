use Rattle.consistency.proofs.Known.{number_there}
use Rattle.consistency.proofs.making.known_number.Goals as goal

pub unreachable-requires : goal.unreachable-requires
unreachable-requires c = number_there c.args.keys.now c.args.numbers.now c.args.key.now c.requires.numbers c.requires.among cc
