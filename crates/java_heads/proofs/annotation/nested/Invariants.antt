use Rattle.std.proofs.Common.{◌≡◌, length}
use Rattle.java_phrases.specs.Common.{ahead, from_start}
use Rattle.java_heads.proofs.NestLoop.{Turning}
use Rattle.java_heads.proofs.annotation.nested.Given as goal

abbrev pub invariant-nest : goal.invariant-nest
invariant-nest l = record {
  reads : Turning (ahead l.initial.tokens) l.initial.nest l.nest (ahead l.tokens);
  moved : from_start l.tokens ≡ from_start l.initial.tokens;
}

abbrev pub decreases-nest : goal.decreases-nest
decreases-nest l = length (ahead l.tokens)
