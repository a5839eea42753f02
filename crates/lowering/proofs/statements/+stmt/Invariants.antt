use Rattle.std.proofs.Common.{◌≡◌, ◌≤◌, drop, length}
use Rattle.bound_tree.specs.Claims.{varies_in}
use Rattle.bound_tree.specs.Reading.{statements_of}
use Rattle.lowering.specs.Lower.{stmts}
use Rattle.lowering.proofs.statements.+stmt.Given as goal

abbrev pub invariant-put_stmts-loop-at : goal.invariant-put_stmts-loop-at
invariant-put_stmts-loop-at l = record {
  low : l.at ≤ length l.list;
  is : l.code ≡ stmts (varies_in l.varies) (statements_of (drop l.at l.list)) l.fn.code;
}

abbrev pub decreases-put_stmts-loop-at : goal.decreases-put_stmts-loop-at
decreases-put_stmts-loop-at l = l.at
