use Rattle.std.proofs.Common.{◌≡◌, ◌<◌, length}
use Rattle.promise_grammar.specs.Count.{count_from}
use Rattle.promise_grammar.proofs.member.digits.Given as goal

abbrev pub invariant-loop-word : goal.invariant-loop-word
invariant-loop-word l = (l.number < 2147483648) × (count_from l.number l.word ≡ count_from 0 l.initial.word)

abbrev pub decreases-loop-word : goal.decreases-loop-word
decreases-loop-word l = length l.word
