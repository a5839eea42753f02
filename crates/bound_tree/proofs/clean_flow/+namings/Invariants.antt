use Rattle.std.proofs.Common.{◌≡◌, ◌≤◌, drop, length, min}
use Rattle.bound_tree.specs.Reading.{terms_of}
use Rattle.bound_tree.specs.Runs.{namings_in}
use Rattle.bound_tree.proofs.clean_flow.+namings.Given as goal

abbrev pub invariant-all_namings-loop-at : goal.invariant-all_namings-loop-at
invariant-all_namings-loop-at l = record { low : l.at ≤ length l.list; is : l.count ≡ min (namings_in l.local (terms_of (drop l.at l.list))) 2 }

abbrev pub decreases-all_namings-loop-at : goal.decreases-all_namings-loop-at
decreases-all_namings-loop-at l = l.at
