-- Under two tables that say one thing of what an expression's notes tell, it is bound to one.
use Rattle.std.proofs.Common.{◌≡◌, refl, ℕ, suc, Bool, List, inl, inr, drop, Option, ap, ap₂, ◌∙◌}
use Rattle.class_faces.specs.declared.face.FaceTy.TheVariants as face
use Rattle.class_faces.specs.declared.face.ParamFace.{ParamFace}
use Rattle.bound_tree.specs.declared.tree.UnaryOp.TheVariants as unary
use Rattle.tree_places.specs.PlainExpr.{PlainLexeme, PlainExpr, PlainExprs}
use Rattle.tree_places.specs.PlainExpr as e
use Rattle.name_rules.specs.declared.note.Note.{Note}
use Rattle.name_rules.specs.Types.{Name, Types, Face, field_in}
use Rattle.name_rules.specs.Scopes.{Scope, meaning_in}
use Rattle.name_rules.specs.Places.{Place, AnyValue, Of}
use Rattle.expression_binding.specs.Methods.{NamedMethod, method_in, method_named, method_params, method_notes, made_by, maker_params, made_notes}
use Rattle.class_faces.specs.declared.face.MemberFace.{MemberFace}
use Rattle.expression_binding.specs.Before.{class_before}
use Rattle.expression_binding.specs.Bound.{Ground, grounded, Bound, Bounds, fit, is_paren, argument_place, before_others, count, meant, meaning_of, Based, type_word, before_by, before, selected, own_called, called_on, newly_made, in_parens, left_place, with_one, with_two, raw, raw_all}
use Rattle.expression_binding.specs.Laws.{AgreeOn, AgreeAt, OneAnswer}
use Rattle.binding_laws.proofs.Told.{agree-front, agree-back}
use Rattle.binding_laws.proofs.AskedTypes.{raw-asked, fit-asked, before-asked}
use Rattle.binding_laws.proofs.Agreeing.{AgreeAtParams, fitted-one, meant-one, type_word-one, by-one, selected-one, method_in-one, method_named-one, method-params, maker-params, own_called-one, called_on-one, made_by-one, newly_made-one, left-agrees, with_two-one, argument-agrees, rest-agree}

module _ (T U : Types) (class : Name) (in_static : Bool) where
  abbrev first : Ground
  first = grounded T class in_static

  abbrev second : Ground
  second = grounded U class in_static

  own-agrees : (notes : List Note) → AgreeOn T U class notes → T class ≡ U class
  own-agrees notes agree = agree class (inl refl)

  before-one : (scope : Scope) (from : PlainExpr) → AgreeOn T U class (before first scope from (raw first scope from)).notes
      → (AgreeOn T U class (raw first scope from).notes → raw first scope from ≡ raw second scope from)
      → before first scope from (raw first scope from) ≡ before second scope from (raw second scope from)
  before-one scope from agree same =
      by-one T U class (type_word first scope from) (is_paren from) (raw first scope from) (raw second scope from) agree (raw-asked T class in_static scope from) same
      ∙ ap (λ (w : Option PlainLexeme). before_by U w (fit U AnyValue (is_paren from) (raw second scope from)))
      (type_word-one T U class in_static scope from (own-agrees (before first scope from (raw first scope from)).notes agree))

  -- calls, of their parts
  own_call-one : (scope : Scope) (w : PlainLexeme) (n : ℕ) (m : Option NamedMethod) (bind : Ground → List ParamFace → Bounds)
      → m ≡ method_in U class w.text n
      → AgreeOn T U class (own_called first w n m (bind first (method_params m))).notes
      → (AgreeAtParams T U (method_params m) → AgreeOn T U class (bind first (method_params m)).notes → bind first (method_params m) ≡ bind second (method_params m))
      → own_called first w n m (bind first (method_params m)) ≡ own_called second w n (method_in U class w.text n) (bind second (method_params (method_in U class w.text n)))
  own_call-one scope w n m bind is agree same =
      own_called-one T U class in_static w n m (bind first (method_params m)) agree
      ∙ ap (own_called second w n m)
      (same (method-params T U class n m (agree-front T U class (method_notes n m) _ agree)) (agree-front T U class (bind first (method_params m)).notes _ (agree-back T U class (method_notes n m) _ agree)))
      ∙ ap (λ (f : Option NamedMethod). own_called second w n f (bind second (method_params f))) is

  call_on-one : (w : PlainLexeme) (n : ℕ) (b other : Based) (m : Option NamedMethod) (bind : Ground → List ParamFace → Bounds)
      → b ≡ other
      → m ≡ method_named U (class_before b.base) w.text n
      → AgreeOn T U class (called_on T b w n m (bind first (method_params m))).notes
      → (AgreeAtParams T U (method_params m) → AgreeOn T U class (bind first (method_params m)).notes → bind first (method_params m) ≡ bind second (method_params m))
      → called_on T b w n m (bind first (method_params m))
      ≡ called_on U other w n (method_named U (class_before other.base) w.text n) (bind second (method_params (method_named U (class_before other.base) w.text n)))
  call_on-one w n b other m bind based is agree same =
      let told = agree-back T U class b.notes _ agree in
      called_on-one T U class b w n m (bind first (method_params m)) agree
      ∙ ap (called_on U b w n m)
      (same (method-params T U class n m (agree-front T U class (method_notes n m) _ told)) (agree-front T U class (bind first (method_params m)).notes _ (agree-back T U class (method_notes n m) _ told)))
      ∙ ap (λ (f : Option NamedMethod). called_on U b w n f (bind second (method_params f))) is
      ∙ ap (λ (x : Based). called_on U x w n (method_named U (class_before x.base) w.text n) (bind second (method_params (method_named U (class_before x.base) w.text n)))) based

  new-one : (at : ℕ) (w : PlainLexeme) (n : ℕ) (m : Option MemberFace) (bind : Ground → List ParamFace → Bounds)
      → m ≡ made_by T w.text n
      → AgreeOn T U class (newly_made T at w n m (bind first (maker_params m))).notes
      → (AgreeAtParams T U (maker_params m) → AgreeOn T U class (bind first (maker_params m)).notes → bind first (maker_params m) ≡ bind second (maker_params m))
      → newly_made T at w n m (bind first (maker_params m)) ≡ newly_made U at w n (made_by U w.text n) (bind second (maker_params (made_by U w.text n)))
  new-one at w n m bind is agree same =
      let made = agree w.text (inr (inr (inl refl))) in
      newly_made-one T U class at w n m (bind first (maker_params m)) made
      ∙ ap (newly_made U at w n m)
      (same (maker-params T U class w.text n m (agree-front T U class (made_notes w.text n m) _ agree)) (agree-front T U class (bind first (maker_params m)).notes _ (agree-back T U class (made_notes w.text n m) _ agree)))
      ∙ ap (λ (f : Option MemberFace). newly_made U at w n f (bind second (maker_params f))) (is ∙ made_by-one T U class w.text n made)

  mutual
    unfolding raw

    pub raw-one : (scope : Scope) (x : PlainExpr) → AgreeOn T U class (raw first scope x).notes → raw first scope x ≡ raw second scope x
    raw-one scope (e.Int w) agree = refl
    raw-one scope (e.Str w) agree = refl
    raw-one scope (e.True at) agree = refl
    raw-one scope (e.False at) agree = refl
    raw-one scope (e.Null at) agree = refl
    raw-one scope (e.This at) agree = refl
    raw-one scope (e.Name w) agree =
        meant-one T U class in_static (suc w.at) w.text (meaning_of first scope w.text) agree
        ∙ ap (λ (f : Option Face). meant second (suc w.at) w.text (meaning_in scope w.text (field_in w.text f))) (agree class (inl refl))
    raw-one scope (e.Call w args closing) agree =
        own_call-one scope w (count args) (method_in T class w.text (count args)) (λ g params. raw_all g scope params args)
        (method_in-one T U class class w.text (count args) (agree class (inl refl))) agree
        (raw_all-one scope (method_params (method_in T class w.text (count args))) args)
    raw-one scope (e.New at w args closing) agree =
        new-one (suc at) w (count args) (made_by T w.text (count args)) (λ g params. raw_all g scope params args) refl agree
        (raw_all-one scope (maker_params (made_by T w.text (count args))) args)
    raw-one scope (e.Paren opening inside closing) agree = ap (in_parens (suc opening)) (raw-one scope inside agree)
    raw-one scope (e.Select from w) agree =
        let b = before first scope from (raw first scope from) in
        selected-one T U class b w agree (before-asked T class in_static scope from)
        ∙ ap (λ (y : Based). selected U y w) (before-one scope from (agree-front T U class b.notes _ agree) (raw-one scope from))
    raw-one scope (e.CallOn from w args closing) agree =
        let b = before first scope from (raw first scope from) in
        let m = method_named T (class_before b.base) w.text (count args) in
        let told = agree-front T U class b.notes _ agree in
        call_on-one w (count args) b (before second scope from (raw second scope from)) m (λ g params. raw_all g scope params args)
        (before-one scope from told (raw-one scope from))
        (method_named-one T U class b.notes told (class_before b.base) (before-asked T class in_static scope from) w.text (count args))
        agree (raw_all-one scope (method_params m) args)
    raw-one scope (e.Not at operand) agree =
        ap (with_one unary.Not (suc at))
        (fitted-one T U class (Of face.Bool) (is_paren operand) (raw first scope operand) (raw second scope operand) tt agree (raw-asked T class in_static scope operand) (raw-one scope operand))
    raw-one scope (e.Neg at operand) agree =
        ap (with_one unary.Negate (suc at))
        (fitted-one T U class (Of face.Int) (is_paren operand) (raw first scope operand) (raw second scope operand) tt agree (raw-asked T class in_static scope operand) (raw-one scope operand))
    raw-one scope (e.Binary l op at r) agree =
        let a = fit T (left_place op) (is_paren l) (raw first scope l) in
        let b = raw first scope r in
        let on_left = agree-front T U class a.notes _ agree in
        let on_right = agree-front T U class b.notes _ (agree-back T U class a.notes _ agree) in
        with_two-one T U class op (suc at) a (is_paren r) b on_left on_right
        (fit-asked T class (left_place op) (is_paren l) (raw first scope l) (raw-asked T class in_static scope l)) (raw-asked T class in_static scope r)
        ∙ ap₂ (λ (x y : Bound). with_two U op (suc at) x (is_paren r) y)
        (fitted-one T U class (left_place op) (is_paren l) (raw first scope l) (raw second scope l) (left-agrees T U class op) on_left (raw-asked T class in_static scope l) (raw-one scope l))
        (raw-one scope r on_right)

    pub raw_all-one : (scope : Scope) (params : List ParamFace) (xs : PlainExprs) → AgreeAtParams T U params → AgreeOn T U class (raw_all first scope params xs).notes
        → raw_all first scope params xs ≡ raw_all second scope params xs
    raw_all-one scope params e.no_exprs h agree = refl
    raw_all-one scope params (e.expr x xs) h agree =
        let a = fit T (argument_place params) (is_paren x) (raw first scope x) in
        ap₂ before_others
        (fitted-one T U class (argument_place params) (is_paren x) (raw first scope x) (raw second scope x) (argument-agrees T U class params h) (agree-front T U class a.notes _ agree)
        (raw-asked T class in_static scope x) (raw-one scope x))
        (raw_all-one scope (drop 1 params) xs (rest-agree T U class params h) (agree-back T U class a.notes _ agree))

  pub fitted-agrees : (scope : Scope) (p : Place) (x : PlainExpr) → AgreeOn T U class (fit T p (is_paren x) (raw first scope x)).notes → AgreeAt T U p
      → fit T p (is_paren x) (raw first scope x) ≡ fit U p (is_paren x) (raw second scope x)
  fitted-agrees scope p x agree h = fitted-one T U class p (is_paren x) (raw first scope x) (raw second scope x) h agree (raw-asked T class in_static scope x) (raw-one scope x)

pub one_answer : OneAnswer
one_answer T U class in_static scope p x agree h = fitted-agrees T U class in_static scope p x agree h
