-- Statements as plain data, where each place is a number. A local's declaration and a block are
-- statements too.
use Rattle.std.specs.Prelude.{ℕ, List, [], ◌∷◌, Option, Some, None}
use Rattle.java_tree.specs.declared.stmt.AssignOp.{AssignOp}
use Rattle.java_tree.specs.declared.stmt.StepOp.{StepOp}
use Rattle.tree_places.specs.PlainExpr.{PlainLexeme, PlainExpr}

pub data PlainTy : Type 0 where
  Int : ℕ → PlainTy
  Boolean : ℕ → PlainTy
  Named : PlainLexeme → PlainTy

pub data PlainAction : Type 0 where
  Assign : PlainExpr → AssignOp → ℕ → PlainExpr → PlainAction
  StepAfter : PlainExpr → StepOp → ℕ → PlainAction
  StepBefore : ℕ → StepOp → PlainExpr → PlainAction
  Call : PlainExpr → PlainAction
  New : PlainExpr → PlainAction
  Start : ℕ → PlainExpr → ℕ → PlainAction

pub record PlainLocal : Type 0 where
  pub final_word : Option ℕ
  pub ty : PlainTy
  pub name : PlainLexeme
  pub value : PlainExpr

pub data PlainFirst : Type 0 where
  Nothing : PlainFirst
  FirstLocal : PlainLocal → PlainFirst
  FirstAction : PlainAction → PlainFirst

pub data PlainMonitor : Type 0 where
  Object : PlainExpr → PlainMonitor
  Class : PlainLexeme → ℕ → PlainMonitor

mutual
  pub data PlainStmt : Type 0 where
    Block : ℕ → PlainStmts → ℕ → PlainStmt
    Local : PlainLocal → ℕ → PlainStmt
    Empty : ℕ → PlainStmt
    Action : PlainAction → ℕ → PlainStmt
    If : ℕ → PlainExpr → PlainStmt → PlainStmts → PlainStmt
    While : ℕ → PlainExpr → PlainStmt → PlainStmt
    For : ℕ → PlainFirst → Option PlainExpr → Option PlainAction → PlainStmt → PlainStmt
    Sync : ℕ → PlainMonitor → PlainStmt → PlainStmt
    Return : ℕ → Option PlainExpr → ℕ → PlainStmt

  pub data PlainStmts : Type 0 where
    no_stmts : PlainStmts
    stmt : PlainStmt → PlainStmts → PlainStmts

abbrev pub stmts : List PlainStmt → PlainStmts
stmts [] = no_stmts
stmts (s ∷ ss) = stmt s (stmts ss)

-- what stands behind an "else", if something does
abbrev pub otherwise : Option PlainStmt → PlainStmts
otherwise None = no_stmts
otherwise (Some s) = stmt s no_stmts
