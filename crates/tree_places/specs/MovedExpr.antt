-- Expressions whose spans are put elsewhere, and nothing else.
use Rattle.desk_base.specs.declared.span.Span.{Span}
use Rattle.java_tree.specs.declared.expr.Expr.{Expr, roll-Expr}
use Rattle.java_tree.specs.declared.expr.Expr.TheOpen.{Expr-F}
use Rattle.java_tree.specs.declared.expr.Expr.TheFolds.{fold-Expr}
use Rattle.tree_places.specs.Moved.{moved_lexeme}

-- one layer, whose inner expressions are as they are to be
abbrev pub moved_expr_layer : (Span → Span) → Expr-F Expr → Expr-F Expr
moved_expr_layer place (Expr-F.Int word) = Expr-F.Int (moved_lexeme place word)
moved_expr_layer place (Expr-F.Str word) = Expr-F.Str (moved_lexeme place word)
moved_expr_layer place (Expr-F.True at) = Expr-F.True (place at)
moved_expr_layer place (Expr-F.False at) = Expr-F.False (place at)
moved_expr_layer place (Expr-F.Null at) = Expr-F.Null (place at)
moved_expr_layer place (Expr-F.This at) = Expr-F.This (place at)
moved_expr_layer place (Expr-F.Name word) = Expr-F.Name (moved_lexeme place word)
moved_expr_layer place (Expr-F.Call name args closing) = Expr-F.Call (moved_lexeme place name) args (place closing)
moved_expr_layer place (Expr-F.New at name args closing) = Expr-F.New (place at) (moved_lexeme place name) args (place closing)
moved_expr_layer place (Expr-F.Paren opening inside closing) = Expr-F.Paren (place opening) inside (place closing)
moved_expr_layer place (Expr-F.Select from name) = Expr-F.Select from (moved_lexeme place name)
moved_expr_layer place (Expr-F.CallOn from name args closing) = Expr-F.CallOn from (moved_lexeme place name) args (place closing)
moved_expr_layer place (Expr-F.Not at operand) = Expr-F.Not (place at) operand
moved_expr_layer place (Expr-F.Neg at operand) = Expr-F.Neg (place at) operand
moved_expr_layer place (Expr-F.Binary left operator at right) = Expr-F.Binary left operator (place at) right

unfoldable pub moved_expr : (Span → Span) → Expr → Expr
moved_expr place = fold-Expr Expr (λ f. roll-Expr (moved_expr_layer place f))
