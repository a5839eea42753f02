use Rattle.tree_places.proofs.PlainStmt.{plain-moved_block}
use Rattle.tree_places.proofs.PlainBody.{plain_body-numbered}
use Rattle.tree_places.proofs.laws.plain_moved.Goals as goal

pub returns-clause-block : goal.returns-clause-block
returns-clause-block c = plain-moved_block

pub returns-clause-body : goal.returns-clause-body
returns-clause-body c = plain_body-numbered
