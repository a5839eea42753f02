use Rattle.std.proofs.Common.{length, ◌-◌, ◌≤◌}
use Rattle.java_lexer.specs.Lexing.{CutTo}
use Rattle.java_lexer.proofs.lexer.cut.Given as goal

abbrev pub invariant-loop-at : goal.invariant-loop-at
invariant-loop-at l = record { within : l.at ≤ length l.text; so_far : CutTo l.text l.at l.tokens }

abbrev pub decreases-loop-at : goal.decreases-loop-at
decreases-loop-at l = length l.text - l.at
