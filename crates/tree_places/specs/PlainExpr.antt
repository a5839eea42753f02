-- Expressions as plain data, where each place is a number.
use Rattle.std.specs.Prelude.{ℕ, List, [], ◌∷◌}
use Rattle.java_tree.specs.declared.expr.BinaryOp.{BinaryOp}

-- a name or a literal, and where it stands
pub record PlainLexeme : Type 0 where
  pub text : List ℕ
  pub at : ℕ

mutual
  pub data PlainExpr : Type 0 where
    Int : PlainLexeme → PlainExpr
    Str : PlainLexeme → PlainExpr
    True : ℕ → PlainExpr
    False : ℕ → PlainExpr
    Null : ℕ → PlainExpr
    This : ℕ → PlainExpr
    Name : PlainLexeme → PlainExpr
    Call : PlainLexeme → PlainExprs → ℕ → PlainExpr
    New : ℕ → PlainLexeme → PlainExprs → ℕ → PlainExpr
    Paren : ℕ → PlainExpr → ℕ → PlainExpr
    Select : PlainExpr → PlainLexeme → PlainExpr
    CallOn : PlainExpr → PlainLexeme → PlainExprs → ℕ → PlainExpr
    Not : ℕ → PlainExpr → PlainExpr
    Neg : ℕ → PlainExpr → PlainExpr
    Binary : PlainExpr → BinaryOp → ℕ → PlainExpr → PlainExpr

  pub data PlainExprs : Type 0 where
    no_exprs : PlainExprs
    expr : PlainExpr → PlainExprs → PlainExprs

abbrev pub exprs : List PlainExpr → PlainExprs
exprs [] = no_exprs
exprs (e ∷ es) = expr e (exprs es)

-- the number of the first token
abbrev pub first_number : PlainExpr → ℕ
first_number (Int w) = w.at
first_number (Str w) = w.at
first_number (True at) = at
first_number (False at) = at
first_number (Null at) = at
first_number (This at) = at
first_number (Name w) = w.at
first_number (Call w args closing) = w.at
first_number (New at w args closing) = at
first_number (Paren opening inside closing) = opening
first_number (Select from w) = first_number from
first_number (CallOn from w args closing) = first_number from
first_number (Not at operand) = at
first_number (Neg at operand) = at
first_number (Binary l op at r) = first_number l
