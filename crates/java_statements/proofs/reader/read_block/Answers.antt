use Rattle.java_statements.proofs.ReaderLemmas.{found_block, only_block}
use Rattle.java_statements.proofs.reader.read_block.Goals as goal

pub returns-clause-found : goal.returns-clause-found
returns-clause-found c = found_block c.args.limit c.block.result c.args.tokens.now c.block.new.tokens c.block.ensures

pub returns-clause-only : goal.returns-clause-only
returns-clause-only c = only_block c.args.limit c.block.result c.args.tokens.now c.block.new.tokens c.block.ensures
