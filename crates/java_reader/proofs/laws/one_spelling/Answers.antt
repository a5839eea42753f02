use Rattle.java_reader.proofs.Again.{again-file}
use Rattle.java_reader.proofs.laws.one_spelling.Goals as goal

pub returns : goal.returns
returns c = λ first second tree one other.
    again-file tree one.tokens other.tokens one.spelled other.spelled (c.tokens_spelled.ensures first one.tokens one.lexed) (c.tokens_spelled.ensures second other.tokens other.lexed)
