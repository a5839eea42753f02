use Rattle.std.proofs.Common.{length}
use Rattle.java_lexer.proofs.Reading.{cut_spelled}
use Rattle.java_lexer.proofs.laws.tokens_spelled.Goals as goal

pub returns : goal.returns
returns c = λ text tokens h. cut_spelled text (length text) tokens h.cut
