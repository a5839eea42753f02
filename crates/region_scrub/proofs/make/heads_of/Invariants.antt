use Rattle.std.proofs.Common.{◌≡◌, map, take}
use Rattle.region_scrub.specs.Numbers.{head_at}
use Rattle.region_scrub.proofs.make.heads_of.Given as goal

abbrev pub invariant-loop-key : goal.invariant-loop-key
invariant-loop-key l = l.parents.items ≡ map (head_at l.heads) (take l.key-index l.keys)
