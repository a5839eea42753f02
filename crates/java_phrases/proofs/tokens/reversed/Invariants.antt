use Rattle.std.proofs.Common.{◌≡◌, ◌++◌, reverse, length}
use Rattle.java_phrases.proofs.tokens.reversed.Given as goal

-- what was turned, and what is left
abbrev pub invariant-loop-token : goal.invariant-loop-token
invariant-loop-token l = l.turned ++ reverse l.tokens ≡ reverse l.initial.tokens

abbrev pub decreases-loop-token : goal.decreases-loop-token
decreases-loop-token l = length l.tokens
