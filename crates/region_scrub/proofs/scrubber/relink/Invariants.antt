use Rattle.region_scrub.proofs.Walking.{rest, Relinked}
use Rattle.std.proofs.Common.{length}
use Rattle.region_scrub.proofs.scrubber.relink.Given as goal

abbrev pub invariant-loop-next : goal.invariant-loop-next
invariant-loop-next l = Relinked l.below.keys.items l.heads l.aside l.parents.items l.key l.next

abbrev pub decreases-loop-next : goal.decreases-loop-next
decreases-loop-next l = rest (length l.below.keys.items) l.next
