-- What the walk over a statement is proved by.
use Rattle.std.proofs.Common.{append_assoc, append-nil}
use Rattle.statement_binding.proofs.Shapes.{statement-Block, statement-Local, statement-Empty, statement-Action, statement-If, statement-While, statement-For, statement-Sync, statement-Return, branch-none, branch-some, behind-Block, behind-Local, behind-Empty, behind-Action, behind-If, behind-While, behind-For, behind-Sync, behind-Return, behind_all-none, behind_all-some}
use Rattle.statement_binding.proofs.Blocks.{cut_for}

pub ruleset walk = (statement-Block, statement-Local, statement-Empty, statement-Action, statement-If, statement-While, statement-For, statement-Sync, statement-Return, branch-none, branch-some, behind-Block, behind-Local, behind-Empty, behind-Action, behind-If, behind-While, behind-For, behind-Sync, behind-Return, behind_all-none, behind_all-some, cut_for, append_assoc, append-nil)
