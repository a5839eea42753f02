use Rattle.consistency_cases.proofs.Within.{ok_among}
use Rattle.consistency_cases.proofs.case.link_of.Goals as goal

pub returns-in-Word : goal.returns-in-Word
returns-in-Word c = ok_among c.args.keys.now c.word_of.result c.word_of.ensures
