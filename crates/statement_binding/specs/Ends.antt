-- Statements that can't end normally, as far as the rule knows them: a `return`, a block or
-- `synchronized` statement whose last statement is one, an `if` whose two parts are, and a `while` on
-- the word `true`.
use Rattle.std.specs.Prelude.{Bool, true, false, ◌&&◌}
use Rattle.tree_places.specs.PlainExpr.{PlainExpr}
use Rattle.tree_places.specs.PlainExpr as e
use Rattle.tree_places.specs.PlainStmt.{PlainStmt, PlainStmts}
use Rattle.tree_places.specs.PlainStmt as p

-- the word, without parentheses
abbrev pub is_true : PlainExpr → Bool
is_true (e.True at) = true
is_true _ = false

unfoldable mutual
  pub never_ends : PlainStmt → Bool
  never_ends (p.Block opening items closing) = last_never_ends false items
  never_ends (p.Local l at) = false
  never_ends (p.Empty at) = false
  never_ends (p.Action does at) = false
  never_ends (p.If at test does other) = never_ends does && last_never_ends false other
  never_ends (p.While at test does) = is_true test
  never_ends (p.For at first test last does) = false
  never_ends (p.Sync at held block) = never_ends block
  never_ends (p.Return at v end) = true

  -- whether the last of the statements is one, by whether that before the first is
  pub last_never_ends : Bool → PlainStmts → Bool
  last_never_ends before p.no_stmts = before
  last_never_ends before (p.stmt s others) = last_never_ends (never_ends s) others
