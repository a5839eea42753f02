-- A moved expression as plain data is the expression with the places that it is moved to.
use Rattle.std.proofs.Common.{◌≡◌, ℕ, List, [], ◌∷◌, map, refl, ap, ap₂, ◌∙◌, sym, subst}
use Rattle.desk_base.specs.declared.span.Span.{Span}
use Rattle.java_tree.specs.declared.expr.Expr.{Expr, roll-Expr, map-Expr}
use Rattle.java_tree.specs.declared.expr.Expr.TheOpen.{Expr-F}
use Rattle.java_tree.specs.declared.expr.Expr.TheFolds.{ind-Expr, fold-roll-Expr}
use Rattle.tree_places.specs.MovedExpr.{moved_expr_layer, moved_expr}
use Rattle.tree_places.specs.PlainExpr.{PlainExpr, exprs}
use Rattle.tree_places.specs.PlainExpr as p
use Rattle.tree_places.specs.Plain.{plain_lexeme, expr_step, plain_expr}

module _ (move : Span → Span) (number : Span → ℕ) where
  abbrev moved_number : Span → ℕ
  moved_number at = number (move at)

  abbrev Same : Expr → Type 0
  Same e = plain_expr number (moved_expr move e) ≡ plain_expr moved_number e

  module _ {S : Type 0} (get : S → Expr) (same : (s : S) → Same (get s)) where
    all_same : (ss : List S) → exprs (map (plain_expr number) (map (moved_expr move) (map get ss))) ≡ exprs (map (plain_expr moved_number) (map get ss))
    all_same [] = refl
    all_same (s ∷ ss) = ap₂ p.expr (same s) (all_same ss)

    layer_same : (y : Expr-F S)
        → expr_step number (map-Expr Expr PlainExpr (plain_expr number) (moved_expr_layer move (map-Expr Expr Expr (moved_expr move) (map-Expr S Expr get y))))
        ≡ expr_step moved_number (map-Expr Expr PlainExpr (plain_expr moved_number) (map-Expr S Expr get y))
    layer_same (Expr-F.Call w args closing) = ap (λ l. p.Call (plain_lexeme moved_number w) l (moved_number closing)) (all_same args)
    layer_same (Expr-F.New at w args closing) = ap (λ l. p.New (moved_number at) (plain_lexeme moved_number w) l (moved_number closing)) (all_same args)
    layer_same (Expr-F.Paren opening inside closing) = ap (λ t. p.Paren (moved_number opening) t (moved_number closing)) (same inside)
    layer_same (Expr-F.Select from w) = ap (λ t. p.Select t (plain_lexeme moved_number w)) (same from)
    layer_same (Expr-F.CallOn from w args closing) = ap₂ (λ t l. p.CallOn t (plain_lexeme moved_number w) l (moved_number closing)) (same from) (all_same args)
    layer_same (Expr-F.Not at operand) = ap (p.Not (moved_number at)) (same operand)
    layer_same (Expr-F.Neg at operand) = ap (p.Neg (moved_number at)) (same operand)
    layer_same (Expr-F.Binary l op at r) = ap₂ (λ x y. p.Binary x op (moved_number at) y) (same l) (same r)
    layer_same _ = refl

  roll_same : {S : Type 0} (get : S → Expr) (same : (s : S) → Same (get s)) (y : Expr-F S) → Same (roll-Expr (map-Expr S Expr get y))
  unfolding plain_expr moved_expr
  roll_same get same y =
      ap (plain_expr number) (fold-roll-Expr Expr (λ f. roll-Expr (moved_expr_layer move f)) (map-Expr _ Expr get y))
      ∙ fold-roll-Expr PlainExpr (expr_step number) (moved_expr_layer move (map-Expr Expr Expr (moved_expr move) (map-Expr _ Expr get y)))
      ∙ layer_same get same y
      ∙ sym (fold-roll-Expr PlainExpr (expr_step moved_number) (map-Expr _ Expr get y))

  pub plain-moved_expr : (e : Expr) → Same e
  plain-moved_expr = ind-Expr Same (λ x y is. subst (λ f. Same (roll-Expr f)) is (roll_same (λ s. s.0) (λ s. s.1) y))
