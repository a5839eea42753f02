use Rattle.java_expressions.proofs.ReaderLemmas.{found_expr, only_expr}
use Rattle.java_expressions.proofs.reader.read_expr.Goals as goal

pub returns-clause-found : goal.returns-clause-found
returns-clause-found c = found_expr c.args.limit c.ended_expr.result c.args.tokens.now c.ended_expr.new.tokens c.ended_expr.ensures

pub returns-clause-only : goal.returns-clause-only
returns-clause-only c = only_expr c.args.limit c.ended_expr.result c.args.tokens.now c.ended_expr.new.tokens c.ended_expr.ensures
