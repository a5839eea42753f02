use Rattle.java_phrases.specs.Common.{ahead}
use Rattle.java_heads.specs.Spelling.{SigParts}
use Rattle.java_heads.specs.Reading.{signature}
use Rattle.java_heads.specs.Answers.{sig_with}
use Rattle.java_heads.proofs.Parts.{takes-found, takes-only}
use Rattle.java_heads.proofs.ReaderLemmas.{sig_tokens, sig-part}
use Rattle.java_heads.proofs.reader.read_sig.Goals as goal

pub returns-clause-found : goal.returns-clause-found
returns-clause-found c = takes-found SigParts signature sig_tokens sig_with sig-part (ahead c.args.tokens.now) (ahead c.kept_sig.new.tokens) c.kept_sig.result c.kept_sig.ensures.reads

pub returns-clause-only : goal.returns-clause-only
returns-clause-only c = takes-only SigParts signature sig_tokens sig_with sig-part (ahead c.args.tokens.now) (ahead c.kept_sig.new.tokens) c.kept_sig.result c.kept_sig.ensures.reads
