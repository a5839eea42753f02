-- Expressions, statements and blocks as plain data: one equation for each variant.
use Rattle.std.proofs.Common.{◌≡◌, ℕ, List, map, Option, Some, None, ap, ◌∙◌, sym}
use Rattle.std.specs.Option.{option_map}
use Rattle.desk_base.specs.declared.span.Span.{Span}
use Rattle.java_tree.specs.declared.token.Lexeme.{Lexeme}
use Rattle.java_tree.specs.declared.expr.BinaryOp.{BinaryOp}
use Rattle.java_tree.specs.declared.expr.Expr.{Expr}
use Rattle.java_tree.specs.declared.expr.Expr.TheOpen.{Expr-F}
use Rattle.java_tree.specs.declared.expr.Expr.TheFolds.{fold-roll-Expr}
use Rattle.java_tree.specs.declared.expr.Expr.TheVariants as tree
use Rattle.java_tree.specs.declared.stmt.Action.{Action}
use Rattle.java_tree.specs.declared.stmt.Local.{Local}
use Rattle.java_tree.specs.declared.stmt.ForFirst.{ForFirst}
use Rattle.java_tree.specs.declared.stmt.Monitor.{Monitor}
use Rattle.java_tree.specs.declared.stmt.Stmt.{Stmt}
use Rattle.java_tree.specs.declared.stmt.Stmt.TheVariants as stmt
use Rattle.java_tree.specs.declared.stmt.Block.{Block, roll-Block}
use Rattle.java_tree.specs.declared.stmt.BlockItem.{BlockItem}
use Rattle.java_tree.specs.declared.stmt.BlockItem.TheVariants as item
use Rattle.java_tree.specs.declared.stmt.BlockItem.TheOpen.{Stmt-F, BlockItem-F}
use Rattle.java_tree.specs.declared.stmt.BlockItem.TheFolds.{fold-roll-Block, fold-roll-Stmt, fold-roll-BlockItem}
use Rattle.tree_places.specs.PlainExpr.{PlainExpr, exprs}
use Rattle.tree_places.specs.PlainExpr as p
use Rattle.tree_places.specs.PlainStmt.{PlainStmt, stmts, otherwise}
use Rattle.tree_places.specs.PlainStmt as s
use Rattle.tree_places.specs.Plain.{plain_lexeme, expr_step, plain_expr, plain_action, plain_local, plain_first, plain_monitor, item_step, stmt_step, block_step, plain_item, plain_stmt, plain_block}

pub plain_expr-Int : (number : Span → ℕ) (w : Lexeme) → plain_expr number (tree.Int w) ≡ p.Int (plain_lexeme number w)
unfolding plain_expr
plain_expr-Int number w = ap (plain_expr number) (sym (tree.rolls-Int w)) ∙ fold-roll-Expr PlainExpr (expr_step number) (Expr-F.Int w)

pub plain_expr-Str : (number : Span → ℕ) (w : Lexeme) → plain_expr number (tree.Str w) ≡ p.Str (plain_lexeme number w)
unfolding plain_expr
plain_expr-Str number w = ap (plain_expr number) (sym (tree.rolls-Str w)) ∙ fold-roll-Expr PlainExpr (expr_step number) (Expr-F.Str w)

pub plain_expr-True : (number : Span → ℕ) (at : Span) → plain_expr number (tree.True at) ≡ p.True (number at)
unfolding plain_expr
plain_expr-True number at = ap (plain_expr number) (sym (tree.rolls-True at)) ∙ fold-roll-Expr PlainExpr (expr_step number) (Expr-F.True at)

pub plain_expr-False : (number : Span → ℕ) (at : Span) → plain_expr number (tree.False at) ≡ p.False (number at)
unfolding plain_expr
plain_expr-False number at = ap (plain_expr number) (sym (tree.rolls-False at)) ∙ fold-roll-Expr PlainExpr (expr_step number) (Expr-F.False at)

pub plain_expr-Null : (number : Span → ℕ) (at : Span) → plain_expr number (tree.Null at) ≡ p.Null (number at)
unfolding plain_expr
plain_expr-Null number at = ap (plain_expr number) (sym (tree.rolls-Null at)) ∙ fold-roll-Expr PlainExpr (expr_step number) (Expr-F.Null at)

pub plain_expr-This : (number : Span → ℕ) (at : Span) → plain_expr number (tree.This at) ≡ p.This (number at)
unfolding plain_expr
plain_expr-This number at = ap (plain_expr number) (sym (tree.rolls-This at)) ∙ fold-roll-Expr PlainExpr (expr_step number) (Expr-F.This at)

pub plain_expr-Name : (number : Span → ℕ) (w : Lexeme) → plain_expr number (tree.Name w) ≡ p.Name (plain_lexeme number w)
unfolding plain_expr
plain_expr-Name number w = ap (plain_expr number) (sym (tree.rolls-Name w)) ∙ fold-roll-Expr PlainExpr (expr_step number) (Expr-F.Name w)

pub plain_expr-Call : (number : Span → ℕ) (w : Lexeme) (args : List Expr) (at : Span) → plain_expr number (tree.Call w args at) ≡ p.Call (plain_lexeme number w) (exprs (map (plain_expr number) args)) (number at)
unfolding plain_expr
plain_expr-Call number w args at = ap (plain_expr number) (sym (tree.rolls-Call w args at)) ∙ fold-roll-Expr PlainExpr (expr_step number) (Expr-F.Call w args at)

pub plain_expr-New : (number : Span → ℕ) (at : Span) (w : Lexeme) (args : List Expr) (end : Span) → plain_expr number (tree.New at w args end) ≡ p.New (number at) (plain_lexeme number w) (exprs (map (plain_expr number) args)) (number end)
unfolding plain_expr
plain_expr-New number at w args end = ap (plain_expr number) (sym (tree.rolls-New at w args end)) ∙ fold-roll-Expr PlainExpr (expr_step number) (Expr-F.New at w args end)

pub plain_expr-Paren : (number : Span → ℕ) (at : Span) (e : Expr) (end : Span) → plain_expr number (tree.Paren at e end) ≡ p.Paren (number at) (plain_expr number e) (number end)
unfolding plain_expr
plain_expr-Paren number at e end = ap (plain_expr number) (sym (tree.rolls-Paren at e end)) ∙ fold-roll-Expr PlainExpr (expr_step number) (Expr-F.Paren at e end)

pub plain_expr-Select : (number : Span → ℕ) (e : Expr) (w : Lexeme) → plain_expr number (tree.Select e w) ≡ p.Select (plain_expr number e) (plain_lexeme number w)
unfolding plain_expr
plain_expr-Select number e w = ap (plain_expr number) (sym (tree.rolls-Select e w)) ∙ fold-roll-Expr PlainExpr (expr_step number) (Expr-F.Select e w)

pub plain_expr-CallOn : (number : Span → ℕ) (e : Expr) (w : Lexeme) (args : List Expr) (at : Span) → plain_expr number (tree.CallOn e w args at) ≡ p.CallOn (plain_expr number e) (plain_lexeme number w) (exprs (map (plain_expr number) args)) (number at)
unfolding plain_expr
plain_expr-CallOn number e w args at = ap (plain_expr number) (sym (tree.rolls-CallOn e w args at)) ∙ fold-roll-Expr PlainExpr (expr_step number) (Expr-F.CallOn e w args at)

pub plain_expr-Not : (number : Span → ℕ) (at : Span) (e : Expr) → plain_expr number (tree.Not at e) ≡ p.Not (number at) (plain_expr number e)
unfolding plain_expr
plain_expr-Not number at e = ap (plain_expr number) (sym (tree.rolls-Not at e)) ∙ fold-roll-Expr PlainExpr (expr_step number) (Expr-F.Not at e)

pub plain_expr-Neg : (number : Span → ℕ) (at : Span) (e : Expr) → plain_expr number (tree.Neg at e) ≡ p.Neg (number at) (plain_expr number e)
unfolding plain_expr
plain_expr-Neg number at e = ap (plain_expr number) (sym (tree.rolls-Neg at e)) ∙ fold-roll-Expr PlainExpr (expr_step number) (Expr-F.Neg at e)

pub plain_expr-Binary : (number : Span → ℕ) (e : Expr) (op : BinaryOp) (at : Span) (r : Expr) → plain_expr number (tree.Binary e op at r) ≡ p.Binary (plain_expr number e) op (number at) (plain_expr number r)
unfolding plain_expr
plain_expr-Binary number e op at r = ap (plain_expr number) (sym (tree.rolls-Binary e op at r)) ∙ fold-roll-Expr PlainExpr (expr_step number) (Expr-F.Binary e op at r)

-- ---- statements

pub plain_stmt-Block : (number : Span → ℕ) (b : Block) → plain_stmt number (stmt.Block b) ≡ plain_block number b
unfolding plain_item plain_stmt plain_block
plain_stmt-Block number b = ap (plain_stmt number) (sym (stmt.rolls-Block b)) ∙ fold-roll-Stmt PlainStmt PlainStmt PlainStmt (item_step number) (stmt_step number) (block_step number) (Stmt-F.Block b)

pub plain_stmt-Empty : (number : Span → ℕ) (at : Span) → plain_stmt number (stmt.Empty at) ≡ s.Empty (number at)
unfolding plain_item plain_stmt plain_block
plain_stmt-Empty number at = ap (plain_stmt number) (sym (stmt.rolls-Empty at)) ∙ fold-roll-Stmt PlainStmt PlainStmt PlainStmt (item_step number) (stmt_step number) (block_step number) (Stmt-F.Empty at)

pub plain_stmt-Action : (number : Span → ℕ) (does : Action) (at : Span) → plain_stmt number (stmt.Action does at) ≡ s.Action (plain_action number does) (number at)
unfolding plain_item plain_stmt plain_block
plain_stmt-Action number does at = ap (plain_stmt number) (sym (stmt.rolls-Action does at)) ∙ fold-roll-Stmt PlainStmt PlainStmt PlainStmt (item_step number) (stmt_step number) (block_step number) (Stmt-F.Action does at)

pub plain_stmt-While : (number : Span → ℕ) (at : Span) (c : Expr) (does : Stmt) → plain_stmt number (stmt.While at c does) ≡ s.While (number at) (plain_expr number c) (plain_stmt number does)
unfolding plain_item plain_stmt plain_block
plain_stmt-While number at c does = ap (plain_stmt number) (sym (stmt.rolls-While at c does)) ∙ fold-roll-Stmt PlainStmt PlainStmt PlainStmt (item_step number) (stmt_step number) (block_step number) (Stmt-F.While at c does)

pub plain_stmt-For : (number : Span → ℕ) (at : Span) (first : ForFirst) (test : Option Expr) (last : Option Action) (does : Stmt) → plain_stmt number (stmt.For at first test last does) ≡ s.For (number at) (plain_first number first) (option_map (plain_expr number) test) (option_map (plain_action number) last) (plain_stmt number does)
unfolding plain_item plain_stmt plain_block
plain_stmt-For number at first test last does = ap (plain_stmt number) (sym (stmt.rolls-For at first test last does)) ∙ fold-roll-Stmt PlainStmt PlainStmt PlainStmt (item_step number) (stmt_step number) (block_step number) (Stmt-F.For at first test last does)

pub plain_stmt-Sync : (number : Span → ℕ) (at : Span) (held : Monitor) (b : Block) → plain_stmt number (stmt.Sync at held b) ≡ s.Sync (number at) (plain_monitor number held) (plain_block number b)
unfolding plain_item plain_stmt plain_block
plain_stmt-Sync number at held b = ap (plain_stmt number) (sym (stmt.rolls-Sync at held b)) ∙ fold-roll-Stmt PlainStmt PlainStmt PlainStmt (item_step number) (stmt_step number) (block_step number) (Stmt-F.Sync at held b)

pub plain_stmt-Return : (number : Span → ℕ) (at : Span) (value : Option Expr) (end : Span) → plain_stmt number (stmt.Return at value end) ≡ s.Return (number at) (option_map (plain_expr number) value) (number end)
unfolding plain_item plain_stmt plain_block
plain_stmt-Return number at value end = ap (plain_stmt number) (sym (stmt.rolls-Return at value end)) ∙ fold-roll-Stmt PlainStmt PlainStmt PlainStmt (item_step number) (stmt_step number) (block_step number) (Stmt-F.Return at value end)

pub plain_stmt-If : (number : Span → ℕ) (at : Span) (c : Expr) (does : Stmt) (other : Option Stmt)
    → plain_stmt number (stmt.If at c does other) ≡ s.If (number at) (plain_expr number c) (plain_stmt number does) (otherwise (option_map (plain_stmt number) other))
unfolding plain_item plain_stmt plain_block
plain_stmt-If number at c does None = ap (plain_stmt number) (sym (stmt.rolls-If at c does None)) ∙ fold-roll-Stmt PlainStmt PlainStmt PlainStmt (item_step number) (stmt_step number) (block_step number) (Stmt-F.If at c does None)
plain_stmt-If number at c does (Some other) = ap (plain_stmt number) (sym (stmt.rolls-If at c does (Some other))) ∙ fold-roll-Stmt PlainStmt PlainStmt PlainStmt (item_step number) (stmt_step number) (block_step number) (Stmt-F.If at c does (Some other))

-- ---- the items of a block, and blocks

pub plain_item-Local : (number : Span → ℕ) (l : Local) (at : Span) → plain_item number (item.Local l at) ≡ s.Local (plain_local number l) (number at)
unfolding plain_item plain_stmt plain_block
plain_item-Local number l at = ap (plain_item number) (sym (item.rolls-Local l at)) ∙ fold-roll-BlockItem PlainStmt PlainStmt PlainStmt (item_step number) (stmt_step number) (block_step number) (BlockItem-F.Local l at)

pub plain_item-Stmt : (number : Span → ℕ) (does : Stmt) → plain_item number (item.Stmt does) ≡ plain_stmt number does
unfolding plain_item plain_stmt plain_block
plain_item-Stmt number does = ap (plain_item number) (sym (item.rolls-Stmt does)) ∙ fold-roll-BlockItem PlainStmt PlainStmt PlainStmt (item_step number) (stmt_step number) (block_step number) (BlockItem-F.Stmt does)

pub plain_block-record : (number : Span → ℕ) (opening : Span) (items : List BlockItem) (closing : Span)
    → plain_block number (roll-Block record { opening = opening; items = items; closing = closing }) ≡ s.Block (number opening) (stmts (map (plain_item number) items)) (number closing)
unfolding plain_item plain_stmt plain_block
plain_block-record number opening items closing = fold-roll-Block PlainStmt PlainStmt PlainStmt (item_step number) (stmt_step number) (block_step number) record { opening = opening; items = items; closing = closing }

pub ruleset plain_shapes = (plain_expr-Int, plain_expr-Str, plain_expr-True, plain_expr-False, plain_expr-Null, plain_expr-This, plain_expr-Name, plain_expr-Call, plain_expr-New, plain_expr-Paren, plain_expr-Select, plain_expr-CallOn, plain_expr-Not, plain_expr-Neg, plain_expr-Binary, plain_stmt-Block, plain_stmt-Empty, plain_stmt-Action, plain_stmt-If, plain_stmt-While, plain_stmt-For, plain_stmt-Sync, plain_stmt-Return, plain_item-Local, plain_item-Stmt, plain_block-record)
