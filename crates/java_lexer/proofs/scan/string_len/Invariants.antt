use Rattle.std.proofs.Common.{◌≡◌, ◌+◌, length, false}
use Rattle.java_lexer.specs.Scan.{string_from}
use Rattle.java_lexer.proofs.scan.string_len.Given as goal

abbrev pub invariant-loop-text : goal.invariant-loop-text
invariant-loop-text l = (string_from l.escaped l.at l.text ≡ string_from false 0 l.initial.text) × (l.at + length l.text ≡ length l.initial.text)

abbrev pub decreases-loop-text : goal.decreases-loop-text
decreases-loop-text l = length l.text
