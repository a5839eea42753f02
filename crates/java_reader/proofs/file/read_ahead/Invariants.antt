use Rattle.std.proofs.Common.{length}
use Rattle.java_phrases.specs.Common.{ahead}
use Rattle.java_reader.proofs.Drafted.{Begun}
use Rattle.java_reader.proofs.file.read_ahead.Given as goal

abbrev pub invariant-parts : goal.invariant-parts
invariant-parts l = Begun (ahead l.fn.tokens) l.draft (ahead l.tokens)

abbrev pub decreases-parts : goal.decreases-parts
decreases-parts l = length (ahead l.tokens)
