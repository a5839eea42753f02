use Rattle.std.proofs.Common.{◌≡◌, ◌+◌, ◌-◌, ◌≤◌, length, drop, not}
use Rattle.std.specs.List.{prefix_len}
use Rattle.java_lexer.specs.Chars.{is_line_end}
use Rattle.java_lexer.proofs.scan.line_len.Given as goal

abbrev pub invariant-loop-end : goal.invariant-loop-end
invariant-loop-end l = (l.end + prefix_len (λ b. not (is_line_end b)) (drop l.end l.text) ≡ prefix_len (λ b. not (is_line_end b)) l.text) × (l.end ≤ length l.text)

abbrev pub decreases-loop-end : goal.decreases-loop-end
decreases-loop-end l = length l.text - l.end
