use Rattle.std.proofs.Common.{◌≡◌, ◌+◌, ◌-◌, ◌≤◌, length, drop, eqb}
use Rattle.std.specs.List.{position_or_len}
use Rattle.promise_grammar.proofs.split.len_before.Given as goal

abbrev pub invariant-loop-len : goal.invariant-loop-len
invariant-loop-len l =
    (l.len + position_or_len (λ b. eqb b l.byte) (drop l.len l.bytes) ≡ position_or_len (λ b. eqb b l.byte) l.bytes) × (l.len ≤ length l.bytes)

abbrev pub decreases-loop-len : goal.decreases-loop-len
decreases-loop-len l = length l.bytes - l.len
