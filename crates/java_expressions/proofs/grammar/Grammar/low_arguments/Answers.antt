use Rattle.std.proofs.Common.{arith}
use Rattle.java_expressions.proofs.Heights.{low_args}
use Rattle.java_expressions.proofs.grammar.Grammar.low_arguments.Goals as goal

pub returns-clause-low : goal.returns-clause-low
returns-clause-low g c = low_args c.args.self.now.room c.arguments.result c.args.tokens.now c.arguments.new.tokens (omega arith) c.arguments.ensures
