use Rattle.java_expressions.proofs.ReaderLemmas.{one_expr}
use Rattle.java_expressions.proofs.laws.one_expression.Goals as goal

pub returns : goal.returns
returns c = λ limit ts rest other_rest one other a b s t. one_expr limit ts rest other_rest one other a b s t
