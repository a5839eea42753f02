use Rattle.std.proofs.Common.{◌≡◌, ◌≤◌, drop, length}
use Rattle.bound_tree.specs.Claims.{varies_in}
use Rattle.bound_tree.specs.Reading.{statements_of}
use Rattle.bound_tree.specs.Shown.{claims_as, shown_back}
use Rattle.bound_tree.specs.Walked.{statements_seen}
use Rattle.bound_tree.proofs.places.+stmt.Given as goal

abbrev pub invariant-put_stmts-loop-at : goal.invariant-put_stmts-loop-at
invariant-put_stmts-loop-at l = record { low : l.at ≤ length l.list; is : shown_back l.places ≡ statements_seen (varies_in l.varies) (claims_as l.held) (statements_of (drop l.at l.list)) (shown_back l.fn.places) }

abbrev pub decreases-put_stmts-loop-at : goal.decreases-put_stmts-loop-at
decreases-put_stmts-loop-at l = l.at
