use Rattle.std.proofs.Common.{◌≡◌, length}
use Rattle.java_phrases.specs.Tree.{Kind as k}
use Rattle.java_phrases.specs.Common.{sees, ahead, from_start}
use Rattle.java_heads.specs.Reading.{after, qualified}
use Rattle.java_phrases.proofs.Loops.{Continues}
use Rattle.java_heads.proofs.parameters.more_throws.Given as goal

abbrev pub invariant-more : goal.invariant-more
invariant-more l = record {
  reads : Continues (sees k.Comma) (after k.Comma qualified) (ahead l.initial.tokens) l.initial.found l.found (ahead l.tokens);
  moved : from_start l.tokens ≡ from_start l.initial.tokens;
}

abbrev pub decreases-more : goal.decreases-more
decreases-more l = length (ahead l.tokens)
