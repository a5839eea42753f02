use Rattle.std.proofs.Common.{length}
use Rattle.java_lexer.proofs.Reading.{cut_follow}
use Rattle.java_lexer.proofs.laws.tokens_follow.Goals as goal

pub returns : goal.returns
returns c = λ text tokens h. cut_follow text (length text) tokens h.cut
