use Rattle.region_scrub.proofs.Indexing.{Indexed}
use Rattle.region_scrub.proofs.index.Index.new.Given as goal

abbrev pub invariant-loop-at : goal.invariant-loop-at
invariant-loop-at l = Indexed l.keys.items l.first.items l.next.items l.at

abbrev pub decreases-loop-at : goal.decreases-loop-at
decreases-loop-at l = l.at
