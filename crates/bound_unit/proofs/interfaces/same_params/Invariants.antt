use Rattle.std.proofs.Common.{◌≡◌, drop}
use Rattle.bound_unit.specs.Implemented.{same_params}
use Rattle.bound_unit.proofs.interfaces.same_params.Given as goal

-- what is left has equal types where all have
abbrev pub invariant-loop-at : goal.invariant-loop-at
invariant-loop-at l = same_params (drop l.at l.params) (drop l.at l.others) ≡ same_params l.params l.others
