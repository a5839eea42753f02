use Rattle.tree_places.proofs.Units.{tokens_of_members, tokens_of_headers}
use Rattle.tree_places.proofs.laws.alike_tokens.Goals as goal

pub returns-clause-member : goal.returns-clause-member
returns-clause-member c = tokens_of_members

pub returns-clause-header : goal.returns-clause-header
returns-clause-header c = tokens_of_headers
