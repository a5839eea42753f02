use Rattle.std.proofs.Common.{◌≡◌, drop}
use Rattle.lock_check.specs.Needs.{owner_from}
use Rattle.lock_check.proofs.owner.owner_in.Given as goal

-- none so far has the name
abbrev pub invariant-loop-number : goal.invariant-loop-number
invariant-loop-number l = owner_from l.number (drop l.number l.params) l.name ≡ owner_from 0 l.params l.name
