use Rattle.std.proofs.Common.{◌≡◌, ℕ, length}
use Rattle.std.specs.Prelude.{Some}
use Rattle.region_scrub.specs.Numbers.{key_at}
use Rattle.region_scrub.specs.Stages.{faults_by}
use Rattle.region_scrub.proofs.Walking.{IsWalk, rest}
use Rattle.region_scrub.proofs.scrubber.later.Given as goal

-- no region between the first one and `next` has the key and is left
abbrev pub invariant-loop-next : goal.invariant-loop-next
invariant-loop-next l = (key : ℕ) × (key_at l.same.keys.items l.region ≡ Some key) × IsWalk l.same.keys.items (faults_by l.aside) key l.region l.next

abbrev pub decreases-loop-next : goal.decreases-loop-next
decreases-loop-next l = rest (length l.same.keys.items) l.next
