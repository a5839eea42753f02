use Rattle.std.proofs.Common.{◌≡◌, length}
use Rattle.consistency.specs.Tables.{RowsTo}
use Rattle.consistency.proofs.solving.judge_all.Given as goal

abbrev pub invariant-loop-p : goal.invariant-loop-p
invariant-loop-p l = (length l.judged.items ≡ l.p) × RowsTo l.graph.clauses.items l.graph.words.items l.con l.firm l.blames l.leaves l.p l.judged.items
