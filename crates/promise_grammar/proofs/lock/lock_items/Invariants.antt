use Rattle.std.proofs.Common.{[], length}
use Rattle.promise_grammar.specs.Reading.{separated_from, lock_item}
use Rattle.promise_grammar.proofs.Lists.{Keeps}
use Rattle.promise_grammar.proofs.lock.lock_items.Given as goal

abbrev pub invariant-loop-found : goal.invariant-loop-found
invariant-loop-found l = Keeps lock_item (separated_from lock_item (length l.fn.pieces) [] l.fn.pieces) l.found l.pieces

abbrev pub decreases-loop-found : goal.decreases-loop-found
decreases-loop-found l = length l.pieces
