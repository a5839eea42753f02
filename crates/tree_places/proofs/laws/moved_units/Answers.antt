use Rattle.tree_places.proofs.Units.{moved_members, moved_headers}
use Rattle.tree_places.proofs.laws.moved_units.Goals as goal

pub returns-clause-member : goal.returns-clause-member
returns-clause-member c = moved_members

pub returns-clause-header : goal.returns-clause-header
returns-clause-header c = moved_headers c.one_part.ensures.header
