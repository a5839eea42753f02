use Rattle.std.proofs.Common.{◌≡◌, ◌+◌, length}
use Rattle.java_lexer.specs.Scan.{close_from}
use Rattle.java_lexer.proofs.scan.close_len.Given as goal

abbrev pub invariant-loop-text : goal.invariant-loop-text
invariant-loop-text l = (close_from l.at l.text ≡ close_from 0 l.initial.text) × (l.at + length l.text ≡ length l.initial.text)

abbrev pub decreases-loop-text : goal.decreases-loop-text
decreases-loop-text l = length l.text
