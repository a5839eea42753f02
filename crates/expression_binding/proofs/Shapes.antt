-- What each construct of an expression is bound to: one equation for each variant.
use Rattle.std.proofs.Common.{◌≡◌, ℕ, suc, List, [], ◌∷◌, ◌++◌, drop, refl, true, false}
use Rattle.class_faces.specs.declared.face.FaceTy.TheVariants as face
use Rattle.class_faces.specs.declared.face.ParamFace.{ParamFace}
use Rattle.java_lexer.specs.Value.{string_value}
use Rattle.java_tree.specs.declared.expr.BinaryOp.{BinaryOp}
use Rattle.tree_places.specs.PlainExpr.{PlainLexeme, PlainExpr, PlainExprs}
use Rattle.tree_places.specs.PlainExpr as e
use Rattle.bound_tree.specs.declared.name.ValueType.TheVariants as value
use Rattle.bound_tree.specs.declared.tree.Literal.TheVariants as literal
use Rattle.bound_tree.specs.declared.tree.UnaryOp.TheVariants as unary
use Rattle.name_rules.specs.Scopes.{Scope}
use Rattle.name_rules.specs.Places.{Of}
use Rattle.expression_binding.specs.Stamps.{string_type}
use Rattle.expression_binding.specs.Literals.{int_value}
use Rattle.expression_binding.specs.Methods.{method_in, method_named, method_params, made_by, maker_params}
use Rattle.expression_binding.specs.Before.{class_before}
use Rattle.expression_binding.specs.Bound.{Ground, constant, this_at, meant, meaning_of, count, own_called, newly_made, in_parens, selected, called_on, with_one, with_two, before, fit, is_paren, left_place, argument_place, before_others, raw, raw_all}

pub raw-Int : (g : Ground) (s : Scope) (w : PlainLexeme) → raw g s (e.Int w) ≡ constant (suc w.at) value.Int (literal.Int (int_value w.text))
unfolding raw
raw-Int g s w = refl

pub raw-Str : (g : Ground) (s : Scope) (w : PlainLexeme) → raw g s (e.Str w) ≡ constant (suc w.at) string_type (literal.Str (string_value w.text))
unfolding raw
raw-Str g s w = refl

pub raw-True : (g : Ground) (s : Scope) (at : ℕ) → raw g s (e.True at) ≡ constant (suc at) value.Boolean (literal.Boolean true)
unfolding raw
raw-True g s at = refl

pub raw-False : (g : Ground) (s : Scope) (at : ℕ) → raw g s (e.False at) ≡ constant (suc at) value.Boolean (literal.Boolean false)
unfolding raw
raw-False g s at = refl

pub raw-Null : (g : Ground) (s : Scope) (at : ℕ) → raw g s (e.Null at) ≡ constant (suc at) value.Null literal.Null
unfolding raw
raw-Null g s at = refl

pub raw-This : (g : Ground) (s : Scope) (at : ℕ) → raw g s (e.This at) ≡ this_at g (suc at)
unfolding raw
raw-This g s at = refl

pub raw-Name : (g : Ground) (s : Scope) (w : PlainLexeme) → raw g s (e.Name w) ≡ meant g (suc w.at) w.text (meaning_of g s w.text)
unfolding raw
raw-Name g s w = refl

pub raw-Call : (g : Ground) (s : Scope) (w : PlainLexeme) (args : PlainExprs) (closing : ℕ)
    → raw g s (e.Call w args closing) ≡ own_called g w (count args) (method_in g.types g.class w.text (count args)) (raw_all g s (method_params (method_in g.types g.class w.text (count args))) args)
unfolding raw
raw-Call g s w args closing = refl

pub raw-New : (g : Ground) (s : Scope) (at : ℕ) (w : PlainLexeme) (args : PlainExprs) (closing : ℕ)
    → raw g s (e.New at w args closing) ≡ newly_made g.types (suc at) w (count args) (made_by g.types w.text (count args)) (raw_all g s (maker_params (made_by g.types w.text (count args))) args)
unfolding raw
raw-New g s at w args closing = refl

pub raw-Paren : (g : Ground) (s : Scope) (opening : ℕ) (x : PlainExpr) (closing : ℕ) → raw g s (e.Paren opening x closing) ≡ in_parens (suc opening) (raw g s x)
unfolding raw
raw-Paren g s opening x closing = refl

pub raw-Select : (g : Ground) (s : Scope) (x : PlainExpr) (w : PlainLexeme) → raw g s (e.Select x w) ≡ selected g.types (before g s x (raw g s x)) w
unfolding raw
raw-Select g s x w = refl

pub raw-CallOn : (g : Ground) (s : Scope) (x : PlainExpr) (w : PlainLexeme) (args : PlainExprs) (closing : ℕ)
    → raw g s (e.CallOn x w args closing)
    ≡ called_on g.types (before g s x (raw g s x)) w (count args) (method_named g.types (class_before (before g s x (raw g s x)).base) w.text (count args))
    (raw_all g s (method_params (method_named g.types (class_before (before g s x (raw g s x)).base) w.text (count args))) args)
unfolding raw
raw-CallOn g s x w args closing = refl

pub raw-Not : (g : Ground) (s : Scope) (at : ℕ) (x : PlainExpr) → raw g s (e.Not at x) ≡ with_one unary.Not (suc at) (fit g.types (Of face.Bool) (is_paren x) (raw g s x))
unfolding raw
raw-Not g s at x = refl

pub raw-Neg : (g : Ground) (s : Scope) (at : ℕ) (x : PlainExpr) → raw g s (e.Neg at x) ≡ with_one unary.Negate (suc at) (fit g.types (Of face.Int) (is_paren x) (raw g s x))
unfolding raw
raw-Neg g s at x = refl

pub raw-Binary : (g : Ground) (s : Scope) (x : PlainExpr) (op : BinaryOp) (at : ℕ) (y : PlainExpr)
    → raw g s (e.Binary x op at y) ≡ with_two g.types op (suc at) (fit g.types (left_place op) (is_paren x) (raw g s x)) (is_paren y) (raw g s y)
unfolding raw
raw-Binary g s x op at y = refl

pub raw_all-none : (g : Ground) (s : Scope) (params : List ParamFace) → raw_all g s params e.no_exprs ≡ record { terms = []; notes = [] }
unfolding raw
raw_all-none g s params = refl

pub raw_all-expr : (g : Ground) (s : Scope) (params : List ParamFace) (x : PlainExpr) (xs : PlainExprs)
    → raw_all g s params (e.expr x xs) ≡ before_others (fit g.types (argument_place params) (is_paren x) (raw g s x)) (raw_all g s (drop 1 params) xs)
unfolding raw
raw_all-expr g s params x xs = refl

pub ruleset raw_shapes = (raw-Int, raw-Str, raw-True, raw-False, raw-Null, raw-This, raw-Name, raw-Call, raw-New, raw-Paren, raw-Select, raw-CallOn, raw-Not, raw-Neg, raw-Binary)
