use Rattle.std.proofs.Common.{arith}
use Rattle.java_expressions.proofs.Heights.{low_expr}
use Rattle.java_expressions.proofs.grammar.Grammar.inner.Goals as goal

pub returns-clause-low : goal.returns-clause-low
returns-clause-low g c = low_expr c.args.self.now.room c.args.least c.expr.result c.args.tokens.now c.expr.new.arg3 c.requires.level (omega arith) (c.requires.nests.reads _ _ _ _ _ c.expr.ensures)
