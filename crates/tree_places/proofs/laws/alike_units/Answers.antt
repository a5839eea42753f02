use Rattle.tree_places.proofs.Units.{alike_members, alike_headers}
use Rattle.tree_places.proofs.laws.alike_units.Goals as goal

pub returns-clause-member : goal.returns-clause-member
returns-clause-member c = alike_members

pub returns-clause-header : goal.returns-clause-header
returns-clause-header c = alike_headers c.one_part.ensures.header
