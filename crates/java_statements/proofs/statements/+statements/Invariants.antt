use Rattle.std.proofs.Common.{◌≡◌, ◌+◌, ◌*◌, length, []}
use Rattle.java_phrases.specs.Common.{ahead, from_start}
use Rattle.java_phrases.proofs.Loops.{Continues}
use Rattle.java_statements.specs.Reading.{goes_on, one_more, statement}
use Rattle.java_statements.proofs.statements.+statements.Given as goal

abbrev pub decreases-statement : goal.decreases-statement
decreases-statement l = 5 * l.limit

abbrev pub decreases-block : goal.decreases-block
decreases-block l = 5 * l.limit

abbrev pub decreases-block_item : goal.decreases-block_item
decreases-block_item l = 5 * l.room + 1

abbrev pub decreases-items : goal.decreases-items
decreases-items l = 5 * l.room + 2

abbrev pub decreases-block_within : goal.decreases-block_within
decreases-block_within l = 5 * l.room + 3

abbrev pub decreases-stmt_within : goal.decreases-stmt_within
decreases-stmt_within l = 5 * l.room + 4

abbrev pub decreases-if_stmt : goal.decreases-if_stmt
decreases-if_stmt l = 5 * l.room + 1

abbrev pub decreases-while_stmt : goal.decreases-while_stmt
decreases-while_stmt l = 5 * l.room + 1

abbrev pub decreases-for_stmt : goal.decreases-for_stmt
decreases-for_stmt l = 5 * l.room + 1

abbrev pub decreases-sync_stmt : goal.decreases-sync_stmt
decreases-sync_stmt l = 5 * l.room + 1

abbrev pub invariant-items-more : goal.invariant-items-more
invariant-items-more l = record {
  reads : Continues (goes_on l.room (statement l.room)) (one_more l.room (statement l.room)) (ahead l.initial.tokens) [] l.found (ahead l.tokens);
  moved : from_start l.tokens ≡ from_start l.initial.tokens;
}

abbrev pub decreases-items-more : goal.decreases-items-more
decreases-items-more l = length (ahead l.tokens)
