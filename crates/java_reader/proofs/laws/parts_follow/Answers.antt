use Rattle.java_reader.proofs.Order.{file-follows}
use Rattle.java_reader.proofs.laws.parts_follow.Goals as goal

pub returns : goal.returns
returns c = λ text tree reads. file-follows text tree reads.tokens reads.spelled (c.tokens_follow.ensures text reads.tokens reads.lexed)
