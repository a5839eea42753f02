use Rattle.std.proofs.Common.{◌≡◌, length}
use Rattle.java_phrases.specs.Tree.{Kind as k}
use Rattle.java_phrases.specs.Common.{sees, ahead, from_start}
use Rattle.java_expressions.specs.Reading.{one_more, expr}
use Rattle.java_phrases.proofs.Loops.{Continues}
use Rattle.java_expressions.proofs.grammar.Grammar.more_items.Given as goal

abbrev pub invariant-more : goal.invariant-more
invariant-more g l = record {
  reads : Continues (sees k.Comma) (one_more (expr l.self.room)) (ahead l.initial.tokens) l.initial.found l.found (ahead l.tokens);
  moved : from_start l.tokens ≡ from_start l.initial.tokens;
}

abbrev pub decreases-more : goal.decreases-more
decreases-more g l = length (ahead l.tokens)
