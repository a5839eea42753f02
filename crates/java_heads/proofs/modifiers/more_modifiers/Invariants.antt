use Rattle.std.proofs.Common.{◌≡◌, length}
use Rattle.java_heads.specs.Reading.{also, starts_mod, one_modifier}
use Rattle.java_phrases.specs.Common.{ahead, from_start}
use Rattle.java_phrases.proofs.Loops.{Continues}
use Rattle.java_heads.proofs.modifiers.more_modifiers.Given as goal

abbrev pub invariant-more : goal.invariant-more
invariant-more l = record {
  reads : Continues starts_mod (also one_modifier) (ahead l.initial.tokens) l.initial.found l.found (ahead l.tokens);
  moved : from_start l.tokens ≡ from_start l.initial.tokens;
}

abbrev pub decreases-more : goal.decreases-more
decreases-more l = length (ahead l.tokens)
