use Rattle.std.proofs.Common.{◌≡◌, length, take}
use Rattle.consistency.specs.Tables.{EndsTo, Falls}
use Rattle.consistency.proofs.follow.ends_of.Given as goal

abbrev pub invariant-loop-promise : goal.invariant-loop-promise
invariant-loop-promise l = (length l.ends.items ≡ length l.rounds.left.items)
    × (Falls l.rounds.left.items l.steps → EndsTo l.rounds.left.items l.steps (take l.promise-index l.rounds.order.items) l.ends.items)
