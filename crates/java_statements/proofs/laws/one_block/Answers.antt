use Rattle.java_statements.proofs.ReaderLemmas.{one_block}
use Rattle.java_statements.proofs.laws.one_block.Goals as goal

pub returns : goal.returns
returns c = λ limit ts rest other_rest one other s t. one_block limit ts rest other_rest one other s t
