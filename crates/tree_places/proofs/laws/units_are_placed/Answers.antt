use Rattle.tree_places.proofs.Units.{placed-member, placed-header}
use Rattle.tree_places.proofs.laws.units_are_placed.Goals as goal

pub returns-clause-member : goal.returns-clause-member
returns-clause-member c = placed-member c.parts_follow.ensures

pub returns-clause-header : goal.returns-clause-header
returns-clause-header c = placed-header c.parts_follow.ensures c.one_part.ensures.header
