use Rattle.tree_places.proofs.Units.{one_member, one_header}
use Rattle.tree_places.proofs.laws.one_unit.Goals as goal

pub returns-clause-member : goal.returns-clause-member
returns-clause-member c = one_member c.parts_follow.ensures

pub returns-clause-header : goal.returns-clause-header
returns-clause-header c = one_header c.parts_follow.ensures c.one_part.ensures.header
