use Rattle.java_expressions.proofs.ReaderLemmas.{found_post, only_post}
use Rattle.java_expressions.proofs.reader.read_post.Goals as goal

pub returns-clause-found : goal.returns-clause-found
returns-clause-found c = found_post c.args.limit c.ended_post.result c.args.tokens.now c.ended_post.new.tokens c.ended_post.ensures

pub returns-clause-only : goal.returns-clause-only
returns-clause-only c = only_post c.args.limit c.ended_post.result c.args.tokens.now c.ended_post.new.tokens c.ended_post.ensures
