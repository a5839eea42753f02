-- What tokens spell as an expression, moved tokens spell as the moved expression.
use Rattle.std.proofs.Common.{◌≡◌, ◌<◌, ◌+◌, ℕ, zero, suc, List, map, ap, ◌∙◌, sym, subst}
use Rattle.desk_base.specs.declared.span.Span.{Span}
use Rattle.java_tree.specs.declared.kind.Kind.TheVariants as k
use Rattle.java_tree.specs.declared.expr.Expr.{Expr, out-Expr, roll-Expr, map-Expr}
use Rattle.java_tree.specs.declared.expr.Expr.TheOpen.{Expr-F}
use Rattle.java_tree.specs.declared.expr.Expr.TheFolds.{fold_out-Expr}
use Rattle.java_tree.specs.declared.expr.Expr.TheViews.{out-roll-Expr}
use Rattle.java_expressions.specs.Spelling.{Args, Smallest, Layered, Spells, sign_of, level_of}
use Rattle.tree_places.specs.MovedExpr.{moved_expr_layer, moved_expr}
use Rattle.tree_places.proofs.Moves.{Moves, moves-never, moves-mark, moves-sign, moves-lexeme, ◌then◌, moves-if, moves-or, moves-separated}

module _ (place : Span → Span) where
  pub out_moved : (e : Expr) → out-Expr (moved_expr place e) ≡ moved_expr_layer place (map-Expr Expr Expr (moved_expr place) (out-Expr e))
  unfolding moved_expr
  out_moved e = ap out-Expr (fold_out-Expr Expr (λ f. roll-Expr (moved_expr_layer place f)) e) ∙ out-roll-Expr (moved_expr_layer place (map-Expr Expr Expr (moved_expr place) (out-Expr e)))

  abbrev pub inward : Expr-F Expr → Expr-F Expr
  inward f = moved_expr_layer place (map-Expr Expr Expr (moved_expr place) f)

  smallest : (f : Expr-F Expr) → Moves place (Smallest f) (Smallest (inward f))
  smallest (Expr-F.Int w) = moves-if _ (moves-lexeme k.IntLiteral w)
  smallest _ = moves-never _

  module _ (room : ℕ) (inner : (least : ℕ) (e : Expr) → Moves place (Spells room least e) (Spells room least (moved_expr place e))) where
    moves-args : (args : List Expr) (closing : Span) → Moves place (Args (Spells room 1) args closing) (Args (Spells room 1) (map (moved_expr place) args) (place closing))
    moves-args args closing = moves-mark k.LParen then moves-separated (moved_expr place) (Spells room 1) (Spells room 1) (inner 1) args then moves-sign k.RParen closing

    layer : (least : ℕ) (f : Expr-F Expr) → Moves place (Layered room (Spells room) least f) (Layered room (Spells room) least (inward f))
    layer least (Expr-F.Int w) = moves-if _ (moves-lexeme k.IntLiteral w)
    layer least (Expr-F.Str w) = moves-lexeme k.StrLiteral w
    layer least (Expr-F.True at) = moves-sign k.True at
    layer least (Expr-F.False at) = moves-sign k.False at
    layer least (Expr-F.Null at) = moves-sign k.Null at
    layer least (Expr-F.This at) = moves-sign k.This at
    layer least (Expr-F.Name w) = moves-lexeme k.Name w
    layer least (Expr-F.Call w args closing) = moves-lexeme k.Name w then moves-args args closing
    layer least (Expr-F.New at w args closing) = moves-if _ (moves-sign k.New at then moves-lexeme k.Name w then moves-args args closing)
    layer least (Expr-F.Paren opening inside closing) = moves-sign k.LParen opening then inner 1 inside then moves-sign k.RParen closing
    layer least (Expr-F.Select from w) = moves-if _ (inner 8 from then moves-mark k.Dot then moves-lexeme k.Name w)
    layer least (Expr-F.CallOn from w args closing) = moves-if _ (inner 8 from then moves-mark k.Dot then moves-lexeme k.Name w then moves-args args closing)
    layer least (Expr-F.Not at operand) = moves-if _ (moves-sign k.Not at then inner 7 operand)
    layer least (Expr-F.Neg at operand) =
        let small = subst (λ f. Moves place (Smallest (out-Expr operand)) (Smallest f)) (sym (out_moved operand)) (smallest (out-Expr operand)) in
        moves-if _ (moves-sign k.Minus at then moves-or (inner 7 operand) (moves-if (0 < room) small))
    layer least (Expr-F.Binary l o at r) = moves-if _ (inner (level_of o) l then moves-sign (sign_of o) at then inner (level_of o + 1) r)

  pub moves-expr : (limit least : ℕ) (e : Expr) → Moves place (Spells limit least e) (Spells limit least (moved_expr place e))
  unfolding Spells
  moves-expr zero least e = moves-never _
  moves-expr (suc room) least e =
      subst (λ f. Moves place (Layered room (Spells room) least (out-Expr e)) (Layered room (Spells room) least f)) (sym (out_moved e)) (layer room (moves-expr room) least (out-Expr e))
