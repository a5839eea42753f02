use Rattle.std.proofs.Common.{◌≡◌, length}
use Rattle.java_expressions.specs.Reading.{climbs, climb, expr}
use Rattle.java_phrases.specs.Common.{ahead, from_start}
use Rattle.java_phrases.proofs.Loops.{Continues}
use Rattle.java_expressions.proofs.grammar.Grammar.operations.Given as goal

abbrev pub invariant-more : goal.invariant-more
invariant-more g l = record {
  reads : Continues (climbs l.least) (climb (expr l.self.room) l.self.room l.least) (ahead l.initial.tokens) l.initial.left l.left (ahead l.tokens);
  moved : from_start l.tokens ≡ from_start l.initial.tokens;
}

abbrev pub decreases-more : goal.decreases-more
decreases-more g l = length (ahead l.tokens)
