use Rattle.std.proofs.Common.{◌≡◌, drop}
use Rattle.std.specs.List.{position_from}
use Rattle.views.specs.Indexed.{constructor_is}
use Rattle.views.proofs.shape.find_constructor.Given as goal

-- no member so far is a constructor
abbrev pub invariant-loop-at : goal.invariant-loop-at
invariant-loop-at l =
    position_from (constructor_is l.front) l.at (drop l.at l.members) ≡ position_from (constructor_is l.front) 0 l.members
