use Rattle.std.proofs.Common.{length}
use Rattle.bundle.proofs.Entries.{SoFar}
use Rattle.bundle.proofs.bundle.skip_entries.Given as goal

abbrev pub invariant-loop-file : goal.invariant-loop-file
invariant-loop-file l = SoFar l.seen l.bytes l.rest

abbrev pub decreases-loop-file : goal.decreases-loop-file
decreases-loop-file l = length l.rest
