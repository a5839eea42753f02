use Rattle.std.proofs.Common.{◌≡◌, ◌++◌, length}
use Rattle.java_lexer.specs.Value.{unescaped}
use Rattle.java_lexer.proofs.value.unescaped.Given as goal

abbrev pub invariant-loop-text : goal.invariant-loop-text
invariant-loop-text l = l.value ++ unescaped l.text ≡ unescaped l.initial.text

abbrev pub decreases-loop-text : goal.decreases-loop-text
decreases-loop-text l = length l.text
