-- The reader as functions on lists of tokens: each says what the function of its name in the code
-- answers. That this is the spelling, both ways, is what the public clauses say.
use Rattle.std.specs.Prelude.{ℕ, zero, suc, ◌+◌, ◌==◌, max, nat_lt, Bool, true, false, if◌then◌else◌, List, [], ◌∷◌, ◌++◌, Option, Some, None, is_some}
use Rattle.std.specs.Str.{bytes_eq}
use Rattle.java_phrases.specs.Tree.{Span, Kind, Kind as k, Token, Lexeme, Expr, BinaryOp, BinaryOp as op}
use Rattle.java_phrases.specs.Common.{smallest_digits, thread_name, Parser, Found, ◌>>=◌, ◌>>◌, pure, fail, next_kind, peek, look, sees, sees_text, sign, word, turns}
use Rattle.java_tree.specs.declared.expr.Expr.TheVariants as tree
use Rattle.java_expressions.specs.declared.tall.Tall.{Tall}
use Rattle.java_expressions.specs.declared.tall.Listed.{Listed}
use Rattle.java_expressions.specs.declared.tall.Arguments.{Arguments}
use Rattle.java_expressions.specs.Spelling.{sign_of, level_of, goes_on_with}

-- ---- operators

abbrev pub operator : Kind → Option BinaryOp
operator k.Or = Some op.Or
operator k.And = Some op.And
operator k.Equal = Some op.Equal
operator k.NotEqual = Some op.NotEqual
operator k.Less = Some op.Less
operator k.Greater = Some op.Greater
operator k.AtMost = Some op.AtMost
operator k.AtLeast = Some op.AtLeast
operator k.Plus = Some op.Add
operator k.Minus = Some op.Subtract
operator k.Times = Some op.Multiply
operator k.Divide = Some op.Divide
operator k.Remainder = Some op.Remainder
operator _ = None

-- the operator, if it is of the level or a tighter one
abbrev pub tight : ℕ → Option BinaryOp → Option BinaryOp
tight least None = None
tight least (Some found) = if nat_lt (level_of found) least then None else Some found

abbrev pub operator_by : ℕ → Option Kind → Option BinaryOp
operator_by least None = None
operator_by least (Some kind) = tight least (operator kind)

-- the next token as an operator of the level or a tighter one
unfoldable pub next_operator : ℕ → List Token → Option BinaryOp
next_operator least ts = operator_by least (next_kind ts)

abbrev pub climbs : ℕ → List Token → Bool
climbs least ts = is_some (next_operator least ts)

abbrev pub goes_on_by : Option Kind → Bool
goes_on_by None = false
goes_on_by (Some kind) = goes_on_with kind

unfoldable pub goes_on : List Token → Bool
goes_on ts = goes_on_by (next_kind ts)

-- whether the next token is the number that is written only behind a minus
abbrev pub sees_smallest : List Token → Bool
sees_smallest = sees_text k.IntLiteral smallest_digits

-- ---- trees with their heights

abbrev pub tall : Expr → ℕ → Tall
tall e height = record { expr = e; height = height }

abbrev pub none : Listed
none = record { items = []; height = 0 }

abbrev pub with_item : Listed → Tall → Listed
with_item found y = record { items = found.items ++ y.expr ∷ []; height = max found.height y.height }

abbrev pub in_parentheses : Listed → Span → Arguments
in_parentheses found closing = record { items = found.items; height = found.height; closing = closing }

abbrev pub named_tree : Lexeme → Tall
named_tree name = tall (tree.Name name) 1

abbrev pub call_tree : Lexeme → Arguments → Tall
call_tree name a = tall (tree.Call name a.items a.closing) (a.height + 1)

abbrev pub new_tree : Span → Lexeme → Arguments → Tall
new_tree at name a = tall (tree.New at name a.items a.closing) (a.height + 1)

abbrev pub paren_tree : Span → Tall → Span → Tall
paren_tree opening y closing = tall (tree.Paren opening y.expr closing) (y.height + 1)

abbrev pub select_tree : Tall → Lexeme → Tall
select_tree x name = tall (tree.Select x.expr name) (x.height + 1)

abbrev pub call_on_tree : Tall → Lexeme → Arguments → Tall
call_on_tree x name a = tall (tree.CallOn x.expr name a.items a.closing) (max x.height a.height + 1)

abbrev pub not_tree : Span → Tall → Tall
not_tree at y = tall (tree.Not at y.expr) (y.height + 1)

abbrev pub neg_tree : Span → Tall → Tall
neg_tree at y = tall (tree.Neg at y.expr) (y.height + 1)

abbrev pub smallest_tree : Span → Lexeme → Tall
smallest_tree at number = tall (tree.Neg at (tree.Int number)) 2

abbrev pub binary_tree : Tall → BinaryOp → Span → Tall → Tall
binary_tree x which at y = tall (tree.Binary x.expr which at y.expr) (max x.height y.height + 1)

-- ---- expressions, where `inner` reads one of a level with one node less on a path

unfoldable pub small : Parser Tall
small = do
  number ← word k.IntLiteral
  if bytes_eq number.text smallest_digits then fail else pure (tall (tree.Int number) 1)

unfoldable pub class_name : Parser Lexeme
class_name = do
  name ← word k.Name
  if bytes_eq name.text thread_name then fail else pure name

module _ (inner : ℕ → Parser Tall) where
  unfoldable pub one_more : Listed → Parser Listed
  one_more found = do
    sign k.Comma
    y ← inner 1
    pure (with_item found y)

  unfoldable pub some_items : Parser Listed
  some_items = do
    y ← inner 1
    turns (sees k.Comma) one_more (with_item none y)

  abbrev pub items_by : Bool → Parser Listed
  items_by true = pure none
  items_by false = some_items

  unfoldable pub arguments : Parser Arguments
  arguments = do
    sign k.LParen
    is_empty ← look k.RParen
    found ← items_by is_empty
    closing ← sign k.RParen
    pure (in_parentheses found closing)

  abbrev pub named_by : Lexeme → Bool → Parser Tall
  named_by name true = do a ← arguments; pure (call_tree name a)
  named_by name false = pure (named_tree name)

  unfoldable pub named : Parser Tall
  named = do
    name ← word k.Name
    called ← look k.LParen
    named_by name called

  unfoldable pub created : Parser Tall
  created = do
    at ← sign k.New
    name ← class_name
    a ← arguments
    pure (new_tree at name a)

  unfoldable pub parenthesized : Parser Tall
  parenthesized = do
    opening ← sign k.LParen
    y ← inner 1
    closing ← sign k.RParen
    pure (paren_tree opening y closing)

  abbrev pub primary_by : Option Kind → Parser Tall
  primary_by (Some k.IntLiteral) = small
  primary_by (Some k.StrLiteral) = do text ← word k.StrLiteral; pure (tall (tree.Str text) 1)
  primary_by (Some k.True) = do at ← sign k.True; pure (tall (tree.True at) 1)
  primary_by (Some k.False) = do at ← sign k.False; pure (tall (tree.False at) 1)
  primary_by (Some k.Null) = do at ← sign k.Null; pure (tall (tree.Null at) 1)
  primary_by (Some k.This) = do at ← sign k.This; pure (tall (tree.This at) 1)
  primary_by (Some k.Name) = named
  primary_by (Some k.New) = created
  primary_by (Some k.LParen) = parenthesized
  primary_by _ = fail

  unfoldable pub primary : Parser Tall
  primary = peek >>= primary_by

  abbrev pub selected_by : Tall → Lexeme → Bool → Parser Tall
  selected_by x name true = do a ← arguments; pure (call_on_tree x name a)
  selected_by x name false = pure (select_tree x name)

  module _ (room : ℕ) where
    unfoldable pub selection : Tall → Parser Tall
    selection x = if nat_lt room x.height then fail else (do
      sign k.Dot
      name ← word k.Name
      called ← look k.LParen
      selected_by x name called)

    unfoldable pub post : Parser Tall
    post = do
      x ← primary
      turns (sees k.Dot) selection x

    unfoldable pub inverted : Parser Tall
    inverted = do
      at ← sign k.Not
      y ← inner 7
      pure (not_tree at y)

    unfoldable pub smallest : Span → Parser Tall
    smallest at = if room == 0 then fail else (do
      number ← word k.IntLiteral
      pure (smallest_tree at number))

    abbrev pub negated_by : Span → Bool → Parser Tall
    negated_by at true = smallest at
    negated_by at false = do y ← inner 7; pure (neg_tree at y)

    unfoldable pub negated : Parser Tall
    negated = do
      at ← sign k.Minus
      is_smallest ← (λ ts. Found (sees_smallest ts) ts)
      negated_by at is_smallest

    abbrev pub unary_by : Option Kind → Parser Tall
    unary_by (Some k.Not) = inverted
    unary_by (Some k.Minus) = negated
    unary_by _ = post

    unfoldable pub unary : Parser Tall
    unary = peek >>= unary_by

    unfoldable pub operation : Tall → BinaryOp → Parser Tall
    operation x which = if nat_lt room x.height then fail else (do
      at ← sign (sign_of which)
      y ← inner (level_of which + 1)
      pure (binary_tree x which at y))

    abbrev pub climb_by : Tall → Option BinaryOp → Parser Tall
    climb_by x None = fail
    climb_by x (Some which) = operation x which

    unfoldable pub climb : ℕ → Tall → Parser Tall
    climb least x = λ ts. climb_by x (next_operator least ts) ts

    unfoldable pub level : ℕ → Parser Tall
    level least = do
      x ← unary
      turns (climbs least) (climb least) x

-- with at most so many nodes on a path
unfoldable pub expr : ℕ → ℕ → Parser Tall
expr zero least = fail
expr (suc room) least = level (expr room) room least

unfoldable pub post_read : ℕ → Parser Tall
post_read zero = fail
post_read (suc room) = post (expr room) room

-- what doesn't go on
abbrev pub ended_by : Tall → Bool → Parser Expr
ended_by y true = fail
ended_by y false = pure y.expr

abbrev pub ended : Parser Tall → Parser Expr
ended p = p >>= (λ y ts. ended_by y (goes_on ts) ts)
