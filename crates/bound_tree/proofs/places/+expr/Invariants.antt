use Rattle.std.proofs.Common.{◌≡◌, ◌≤◌, drop, length}
use Rattle.bound_tree.specs.Reading.{terms_of}
use Rattle.bound_tree.specs.Shown.{argument_goal, claims_as, phrase_as, shown_back}
use Rattle.bound_tree.specs.Walked.{args_seen}
use Rattle.bound_tree.proofs.places.+expr.Given as goal

abbrev pub invariant-put_args-loop-at : goal.invariant-put_args-loop-at
invariant-put_args-loop-at l = record { low : l.at ≤ length l.args; is : shown_back l.places ≡ args_seen (claims_as l.held) (phrase_as l.phrase) (argument_goal l.callee) l.at (terms_of (drop l.at l.args)) (shown_back l.fn.places) }

abbrev pub decreases-put_args-loop-at : goal.decreases-put_args-loop-at
decreases-put_args-loop-at l = l.at
