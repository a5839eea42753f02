-- Arguments that are bound one after another.
use Rattle.std.proofs.Common.{◌≡◌, ℕ, suc, ◌+◌, ◌<◌, ◌≤◌, List, [], ◌∷◌, ◌++◌, map, drop, length, get_or, refl, ap, ap₂, sym, ◌∙◌, subst, append_assoc, append-nil, add-one, drop-cons, drop_of_length-le}
use Rattle.std.proofs.lemmas.List.{drop-drop}
use Rattle.desk_base.specs.declared.span.Span.{Span}
use Rattle.class_faces.specs.declared.face.ParamFace.{ParamFace}
use Rattle.java_tree.specs.declared.expr.Expr.{Expr}
use Rattle.bound_tree.specs.Tree.{Term}
use Rattle.bound_tree.specs.Reading.{term_of}
use Rattle.bound_tree.specs.declared.tree.Expr.{Expr as Made}
use Rattle.name_rules.specs.declared.note.Note.{Note}
use Rattle.name_rules.specs.Scopes.{Scope}
use Rattle.name_rules.specs.Places.{Place}
use Rattle.tree_places.specs.PlainExpr.{PlainExpr, PlainExprs, exprs, expr, no_exprs}
use Rattle.tree_places.specs.Plain.{plain_expr}
use Rattle.expression_binding.specs.Bound.{Ground, Bound, Bounds, raw, raw_all, fit, fit_term, fit_notes, is_paren, argument_place, before_others, count}
use Rattle.expression_binding.proofs.Shapes.{raw_all-none, raw_all-expr}

-- what the arguments from a number on are bound to
abbrev pub left : Ground → Scope → (Span → ℕ) → List ParamFace → List Expr → ℕ → Bounds
left g s number params list at = raw_all g s (drop at params) (exprs (map (plain_expr number) (drop at list)))

-- what is made, with what is left, is all
pub record Goes (g : Ground) (s : Scope) (number : Span → ℕ) (params : List ParamFace) (list : List Expr) (done : List Term) (first told : List Note) (at : ℕ) : Type 0 where
  pub terms : done ++ (left g s number params list at).terms ≡ (left g s number params list 0).terms
  pub notes : told ++ (left g s number params list at).notes ≡ first ++ (left g s number params list 0).notes

pub goes_first : (g : Ground) (s : Scope) (number : Span → ℕ) (params : List ParamFace) (list : List Expr) (first : List Note) → Goes g s number params list [] first first 0
goes_first g s number params list first = record { terms = refl; notes = refl }

cut : (more notes a b c : List Note) → more ≡ (notes ++ a) ++ b → more ++ c ≡ notes ++ ((a ++ b) ++ c)
cut more notes a b c e = ap (λ l. l ++ c) e ∙ simp append_assoc

-- one more argument
left-step : (g : Ground) (s : Scope) (number : Span → ℕ) (params : List ParamFace) (list : List Expr) (at : ℕ) (d : Expr) → at < length list
    → left g s number params list at
    ≡ before_others (fit g.types (argument_place (drop at params)) (is_paren (plain_expr number (get_or list at d))) (raw g s (plain_expr number (get_or list at d))))
    (left g s number params list (at + 1))
left-step g s number params list at d h =
    let rest : drop at list ≡ get_or list at d ∷ drop (suc at) list = drop-cons list at d h in
    let on : drop 1 (drop at params) ≡ drop (at + 1) params = drop-drop 1 at params in
    ap (λ l. raw_all g s (drop at params) (exprs (map (plain_expr number) l))) rest
    ∙ raw_all-expr g s (drop at params) (plain_expr number (get_or list at d)) (exprs (map (plain_expr number) (drop (suc at) list)))
    ∙ ap₂ (λ (ps : List ParamFace) n. before_others (fit g.types (argument_place (drop at params)) (is_paren (plain_expr number (get_or list at d))) (raw g s (plain_expr number (get_or list at d)))) (raw_all g s ps (exprs (map (plain_expr number) (drop n list))))) on (sym (add-one at))

pub goes_on : (g : Ground) (s : Scope) (number : Span → ℕ) (params : List ParamFace) (list : List Expr) (done : List Term) (first notes : List Note) (at : ℕ) (d : Expr) (v : Term) (more : List Note)
    → at < length list
    → v ≡ fit_term g.types (argument_place (drop at params)) (is_paren (plain_expr number (get_or list at d))) (raw g s (plain_expr number (get_or list at d))).term
    → more ≡ (notes ++ (raw g s (plain_expr number (get_or list at d))).notes) ++ fit_notes g.types (argument_place (drop at params)) (raw g s (plain_expr number (get_or list at d))).term
    → Goes g s number params list done first notes at → Goes g s number params list (done ++ v ∷ []) first more (at + 1)
goes_on g s number params list done first notes at d v more h e f goes =
    let step = left-step g s number params list at d h in
    record {
      terms = append_assoc done (v ∷ []) (left g s number params list (at + 1)).terms ∙ ap (λ x. done ++ (x ∷ (left g s number params list (at + 1)).terms)) e ∙ sym (ap (λ (b : Bounds). done ++ b.terms) step) ∙ goes.terms;
      notes = cut _ _ _ _ _ f ∙ sym (ap (λ (b : Bounds). notes ++ b.notes) step) ∙ goes.notes;
    }

-- as many as are written
pub counted : (number : Span → ℕ) (list : List Expr) → count (exprs (map (plain_expr number) list)) ≡ length list
counted number [] = refl
counted number (x ∷ xs) = ap suc (counted number xs)

map-push : (made : List Made) (v : Made) → map term_of (made ++ v ∷ []) ≡ map term_of made ++ term_of v ∷ []
map-push [] v = refl
map-push (x ∷ xs) v = ap (λ l. term_of x ∷ l) (map-push xs v)

-- one more is made, as the loop makes it
pub goes_push : (g : Ground) (s : Scope) (number : Span → ℕ) (params : List ParamFace) (list : List Expr) (made pushed : List Made) (one v : Made) (first notes told more : List Note) (at : ℕ) (d x : Expr) (place : Place)
    → at < length list
    → x ≡ get_or list at d
    → place ≡ argument_place (drop at params)
    → term_of one ≡ (raw g s (plain_expr number x)).term
    → told ≡ notes ++ (raw g s (plain_expr number x)).notes
    → term_of v ≡ fit_term g.types place (is_paren (plain_expr number x)) (term_of one)
    → more ≡ told ++ fit_notes g.types place (term_of one)
    → pushed ≡ made ++ v ∷ []
    → Goes g s number params list (map term_of made) first notes at → Goes g s number params list (map term_of pushed) first more (at + 1)
goes_push g s number params list made pushed one v first notes told more at d x place h is p e1 n1 e2 n2 put goes =
    subst (λ l. Goes g s number params list l first more (at + 1)) (sym (ap (map term_of) put ∙ map-push made v))
    (goes_on g s number params list (map term_of made) first notes at d (term_of v) more h
    (e2 ∙ ap₂ (λ q t. fit_term g.types q (is_paren (plain_expr number x)) t) p e1
    ∙ ap (λ y. fit_term g.types (argument_place (drop at params)) (is_paren (plain_expr number y)) (raw g s (plain_expr number y)).term) is)
    (n2 ∙ ap₂ (λ q t. told ++ fit_notes g.types q t) p e1
    ∙ ap (λ l. l ++ fit_notes g.types (argument_place (drop at params)) (raw g s (plain_expr number x)).term) n1
    ∙ ap (λ y. (notes ++ (raw g s (plain_expr number y)).notes) ++ fit_notes g.types (argument_place (drop at params)) (raw g s (plain_expr number y)).term) is)
    goes)

over : (g : Ground) (s : Scope) (number : Span → ℕ) (params : List ParamFace) (list : List Expr) (at : ℕ) → length list ≤ at
    → left g s number params list at ≡ record { terms = []; notes = [] }
over g s number params list at e =
    ap (λ l. raw_all g s (drop at params) (exprs (map (plain_expr number) l))) (drop_of_length-le list e) ∙ raw_all-none g s (drop at params)

-- behind the last one all is made
pub all_terms : (g : Ground) (s : Scope) (number : Span → ℕ) (params : List ParamFace) (list : List Expr) (done : List Term) (first told : List Note) (at : ℕ) → length list ≤ at
    → Goes g s number params list done first told at → done ≡ (raw_all g s params (exprs (map (plain_expr number) list))).terms
all_terms g s number params list done first told at e goes =
    sym (append-nil done) ∙ sym (ap (λ (b : Bounds). done ++ b.terms) (over g s number params list at e)) ∙ goes.terms

pub all_notes : (g : Ground) (s : Scope) (number : Span → ℕ) (params : List ParamFace) (list : List Expr) (done : List Term) (first told : List Note) (at : ℕ) → length list ≤ at
    → Goes g s number params list done first told at → told ≡ first ++ (raw_all g s params (exprs (map (plain_expr number) list))).notes
all_notes g s number params list done first told at e goes =
    sym (append-nil told) ∙ sym (ap (λ (b : Bounds). told ++ b.notes) (over g s number params list at e)) ∙ goes.notes
