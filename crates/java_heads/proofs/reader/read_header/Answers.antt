use Rattle.java_phrases.specs.Common.{ahead}
use Rattle.java_heads.proofs.ReaderLemmas.{found_header, only_header}
use Rattle.java_heads.proofs.reader.read_header.Goals as goal

pub returns-clause-found : goal.returns-clause-found
returns-clause-found c = found_header (ahead c.args.tokens.now) (ahead c.braced_header.new.tokens) c.braced_header.result c.braced_header.ensures.reads

pub returns-clause-only : goal.returns-clause-only
returns-clause-only c = only_header (ahead c.args.tokens.now) (ahead c.braced_header.new.tokens) c.braced_header.result c.braced_header.ensures.reads
