-- Expressions, statements and bodies of members as plain data. Each place becomes a number, and which
-- one is for the caller to say.
use Rattle.std.specs.Prelude.{ℕ, Option, Some, None}
use Rattle.std.specs.Option.{option_map}
use Rattle.desk_base.specs.declared.span.Span.{Span}
use Rattle.java_tree.specs.declared.token.Lexeme.{Lexeme}
use Rattle.java_tree.specs.declared.member.Ty.{Ty}
use Rattle.java_tree.specs.declared.member.Ty.TheVariants as ty
use Rattle.java_tree.specs.declared.member.MemberTree.{MemberTree}
use Rattle.java_tree.specs.declared.member.MemberTree.TheVariants as member
use Rattle.java_tree.specs.declared.expr.Expr.{Expr}
use Rattle.java_tree.specs.declared.expr.Expr.TheOpen.{Expr-F}
use Rattle.java_tree.specs.declared.expr.Expr.TheFolds.{fold-Expr}
use Rattle.java_tree.specs.declared.stmt.Action.{Action}
use Rattle.java_tree.specs.declared.stmt.Action.TheVariants as action
use Rattle.java_tree.specs.declared.stmt.Local.{Local}
use Rattle.java_tree.specs.declared.stmt.ForFirst.{ForFirst}
use Rattle.java_tree.specs.declared.stmt.ForFirst.TheVariants as first
use Rattle.java_tree.specs.declared.stmt.Monitor.{Monitor}
use Rattle.java_tree.specs.declared.stmt.Monitor.TheVariants as monitor
use Rattle.java_tree.specs.declared.stmt.Stmt.{Stmt}
use Rattle.java_tree.specs.declared.stmt.Block.{Block}
use Rattle.java_tree.specs.declared.stmt.BlockItem.{BlockItem}
use Rattle.java_tree.specs.declared.stmt.BlockItem.TheOpen.{Stmt-F, BlockItem-F, Block-F}
use Rattle.java_tree.specs.declared.stmt.BlockItem.TheFolds.{fold-Block, fold-Stmt, fold-BlockItem}
use Rattle.tree_places.specs.PlainExpr.{PlainLexeme, PlainExpr, exprs}
use Rattle.tree_places.specs.PlainExpr as e
use Rattle.tree_places.specs.PlainStmt.{PlainTy, PlainAction, PlainLocal, PlainFirst, PlainMonitor, PlainStmt, stmts, otherwise}
use Rattle.tree_places.specs.PlainStmt as s

-- ---- expressions

abbrev pub plain_lexeme : (Span → ℕ) → Lexeme → PlainLexeme
plain_lexeme number w = record { text = w.text; at = number w.span }

-- one layer, whose inner expressions are plain already
abbrev pub expr_step : (Span → ℕ) → Expr-F PlainExpr → PlainExpr
expr_step number (Expr-F.Int w) = e.Int (plain_lexeme number w)
expr_step number (Expr-F.Str w) = e.Str (plain_lexeme number w)
expr_step number (Expr-F.True at) = e.True (number at)
expr_step number (Expr-F.False at) = e.False (number at)
expr_step number (Expr-F.Null at) = e.Null (number at)
expr_step number (Expr-F.This at) = e.This (number at)
expr_step number (Expr-F.Name w) = e.Name (plain_lexeme number w)
expr_step number (Expr-F.Call w args closing) = e.Call (plain_lexeme number w) (exprs args) (number closing)
expr_step number (Expr-F.New at w args closing) = e.New (number at) (plain_lexeme number w) (exprs args) (number closing)
expr_step number (Expr-F.Paren opening inside closing) = e.Paren (number opening) inside (number closing)
expr_step number (Expr-F.Select from w) = e.Select from (plain_lexeme number w)
expr_step number (Expr-F.CallOn from w args closing) = e.CallOn from (plain_lexeme number w) (exprs args) (number closing)
expr_step number (Expr-F.Not at operand) = e.Not (number at) operand
expr_step number (Expr-F.Neg at operand) = e.Neg (number at) operand
expr_step number (Expr-F.Binary l op at r) = e.Binary l op (number at) r

unfoldable pub plain_expr : (Span → ℕ) → Expr → PlainExpr
plain_expr number = fold-Expr PlainExpr (expr_step number)

-- ---- actions, locals and the heads of statements

abbrev pub plain_ty : (Span → ℕ) → Ty → PlainTy
plain_ty number (ty.Int at) = s.Int (number at)
plain_ty number (ty.Boolean at) = s.Boolean (number at)
plain_ty number (ty.Named w) = s.Named (plain_lexeme number w)

abbrev pub plain_action : (Span → ℕ) → Action → PlainAction
plain_action number (action.Assign target op at value) = s.Assign (plain_expr number target) op (number at) (plain_expr number value)
plain_action number (action.StepAfter target op at) = s.StepAfter (plain_expr number target) op (number at)
plain_action number (action.StepBefore at op target) = s.StepBefore (number at) op (plain_expr number target)
plain_action number (action.Call call) = s.Call (plain_expr number call)
plain_action number (action.New made) = s.New (plain_expr number made)
plain_action number (action.Start at started closing) = s.Start (number at) (plain_expr number started) (number closing)

abbrev pub plain_local : (Span → ℕ) → Local → PlainLocal
plain_local number l = record { final_word = option_map number l.final_word; ty = plain_ty number l.ty; name = plain_lexeme number l.name; value = plain_expr number l.value }

abbrev pub plain_first : (Span → ℕ) → ForFirst → PlainFirst
plain_first number first.Nothing = s.Nothing
plain_first number (first.Local l) = s.FirstLocal (plain_local number l)
plain_first number (first.Action does) = s.FirstAction (plain_action number does)

abbrev pub plain_monitor : (Span → ℕ) → Monitor → PlainMonitor
plain_monitor number (monitor.Expr held) = s.Object (plain_expr number held)
plain_monitor number (monitor.Class w at) = s.Class (plain_lexeme number w) (number at)

-- ---- statements: one layer each, whose inner statements are plain already

abbrev pub item_step : (Span → ℕ) → BlockItem-F PlainStmt PlainStmt PlainStmt → PlainStmt
item_step number (BlockItem-F.Local l at) = s.Local (plain_local number l) (number at)
item_step number (BlockItem-F.Stmt stmt) = stmt

abbrev pub stmt_step : (Span → ℕ) → Stmt-F PlainStmt PlainStmt PlainStmt → PlainStmt
stmt_step number (Stmt-F.Block block) = block
stmt_step number (Stmt-F.Empty at) = s.Empty (number at)
stmt_step number (Stmt-F.Action does at) = s.Action (plain_action number does) (number at)
stmt_step number (Stmt-F.If at condition does other) = s.If (number at) (plain_expr number condition) does (otherwise other)
stmt_step number (Stmt-F.While at condition does) = s.While (number at) (plain_expr number condition) does
stmt_step number (Stmt-F.For at start test last does) =
    s.For (number at) (plain_first number start) (option_map (plain_expr number) test) (option_map (plain_action number) last) does
stmt_step number (Stmt-F.Sync at held block) = s.Sync (number at) (plain_monitor number held) block
stmt_step number (Stmt-F.Return at value end) = s.Return (number at) (option_map (plain_expr number) value) (number end)

abbrev pub block_step : (Span → ℕ) → Block-F PlainStmt PlainStmt PlainStmt → PlainStmt
block_step number block = s.Block (number block.opening) (stmts block.items) (number block.closing)

unfoldable pub plain_item : (Span → ℕ) → BlockItem → PlainStmt
plain_item number = fold-BlockItem PlainStmt PlainStmt PlainStmt (item_step number) (stmt_step number) (block_step number)

unfoldable pub plain_stmt : (Span → ℕ) → Stmt → PlainStmt
plain_stmt number = fold-Stmt PlainStmt PlainStmt PlainStmt (item_step number) (stmt_step number) (block_step number)

unfoldable pub plain_block : (Span → ℕ) → Block → PlainStmt
plain_block number = fold-Block PlainStmt PlainStmt PlainStmt (item_step number) (stmt_step number) (block_step number)

-- ---- members

-- the block of a method, a constructor or a main
abbrev pub body_of : MemberTree → Option Block
body_of (member.Method m) = Some m.body
body_of (member.Ctor c) = Some c.body
body_of (member.Main m) = Some m.body
body_of (member.Field f) = None
body_of (member.Sig s) = None

-- the body of a member, if it has one
abbrev pub plain_body : (Span → ℕ) → MemberTree → Option PlainStmt
plain_body number m = option_map (plain_block number) (body_of m)
