use Rattle.views.specs.Indexes.{UnitsTo}
use Rattle.views.proofs.promises.index_units.Given as goal

-- the promises so far are in the map
abbrev pub invariant-loop-at : goal.invariant-loop-at
invariant-loop-at l = UnitsTo l.index l.at l.standing
