-- Two tables that say one thing of what an answer rests on, at each step of an answer.
use Rattle.std.proofs.Common.{◌≡◌, refl, ℕ, suc, Bool, true, false, not, ◌&&◌, ◌||◌, if◌then◌else◌, List, [], ◌∷◌, ◌++◌, inl, inr, drop, Option, Some, None, ap, ap₂, ◌∙◌}
use Rattle.std.specs.Str.{bytes_eq}
use Rattle.class_faces.specs.declared.face.FaceTy.{FaceTy}
use Rattle.class_faces.specs.declared.face.FaceTy.TheVariants as face
use Rattle.class_faces.specs.declared.face.ParamFace.{ParamFace}
use Rattle.class_faces.specs.declared.face.MemberFace.{MemberFace}
use Rattle.java_tree.specs.declared.expr.BinaryOp.{BinaryOp}
use Rattle.java_tree.specs.declared.expr.BinaryOp.TheVariants as operator
use Rattle.result_records.specs.declared.code.FindingCode.{FindingCode}
use Rattle.result_records.specs.declared.code.FindingCode.TheVariants as code
use Rattle.bound_tree.specs.declared.name.ValueType.{ValueType}
use Rattle.bound_tree.specs.declared.name.ValueType.TheVariants as value
use Rattle.bound_tree.specs.Tree.{Term, stamp_of, is_bad}
use Rattle.bound_tree.specs.Tree as t
use Rattle.tree_places.specs.PlainExpr.{PlainLexeme, PlainExpr, PlainExprs}
use Rattle.tree_places.specs.PlainExpr as e
use Rattle.name_rules.specs.declared.note.Note.{Note}
use Rattle.name_rules.specs.declared.uses.Use.{Use}
use Rattle.name_rules.specs.declared.uses.Use.TheVariants as usage
use Rattle.name_rules.specs.declared.scope.Variable.{Variable}
use Rattle.name_rules.specs.Types.{Name, Types, Face, is_known_name, is_known, is_object, is_object_kind, is_class, is_interface, lists_interface, class_suits, suits, compares, field_in}
use Rattle.name_rules.specs.Types as rules
use Rattle.name_rules.specs.Notes.{consults, consults_result, consults_params}
use Rattle.name_rules.specs.Scopes.{Scope, Meaning, IsVariable, IsField, IsHidden, IsFree, meaning_in}
use Rattle.name_rules.specs.Places.{Place, Anywhere, AnyValue, Of, Beside, Locked, Started, use_of, use_notes, found_unless, misplaced}
use Rattle.expression_binding.specs.Stamps.{used, judged_given}
use Rattle.expression_binding.specs.Fields.{NamedField, field_named}
use Rattle.expression_binding.specs.Methods.{NamedMethod, method_in, method_named, method_params, method_notes, made_by, maker_params, made_notes}
use Rattle.expression_binding.specs.Before.{is_misuse, first_of, class_before}
use Rattle.expression_binding.specs.Bound.{grounded, Bound, Bounds, found_at, finding_if, spoilt_if, fit, any_bad, argument_place, own_field_by, is_out_of_place, meant, Based, word_if_free, type_word, type_before, value_before, before_by, field_use, field_term, field_notes, field_made, field_told, selected, call_use, own_call_term, own_called, called_on, method_term, newly_made, left_place, right_place, joined, with_two}
use Rattle.expression_binding.specs.Laws.{IsTold, IsAsked, IsAskedType, AgreeOn, AgreeAtType, AgreeAtValue, AgreeAt}
use Rattle.binding_laws.proofs.Told.{agree-front, agree-back}
use Rattle.binding_laws.proofs.AskedTypes.{IsAskedName}

module _ (T U : Types) where
  -- they say one thing of a type, where there is one
  abbrev pub AgreeAtGiven : Option FaceTy → Type 0
  AgreeAtGiven None = Unit {0}
  AgreeAtGiven (Some ty) = AgreeAtType T U ty

  abbrev pub AgreeAtParams : List ParamFace → Type 0
  AgreeAtParams [] = Unit {0}
  AgreeAtParams (p ∷ ps) = AgreeAtType T U p.ty × AgreeAtParams ps

  abbrev pub AgreeAtHad : Option rules.ValueType → Type 0
  AgreeAtHad None = Unit {0}
  AgreeAtHad (Some v) = AgreeAtValue T U v

  -- ---- uses

  pub use-one : (misused : Bool) (given : Option FaceTy) → AgreeAtGiven given → use_of T misused given ≡ use_of U misused given
  use-one misused None h = refl
  use-one misused (Some face.Int) h = refl
  use-one misused (Some face.Bool) h = refl
  use-one misused (Some face.Args) h = refl
  use-one misused (Some (face.Named c)) h = ap (λ (f : Option Face). use_of (λ _. f) misused (Some (face.Named c))) h

  pub call_use-one : (args : List Term) (misused : Bool) (given : Option FaceTy) → AgreeAtGiven given → call_use T args misused given ≡ call_use U args misused given
  call_use-one args misused given h = ap (λ (u : Use). if any_bad args then usage.Unjudged else u) (use-one misused given h)

  -- ---- what suits what

  abbrev suits_by : Name → Name → Option Face → Option Face → Bool
  suits_by c d f h =
      bytes_eq c d || ((is_object d && is_object_kind (λ _. f) c) || (is_class (λ _. f) c && (is_interface (λ _. h) d && lists_interface d f)))

  suits-one : (c d : Name) → T c ≡ U c → T d ≡ U d → class_suits T c d ≡ class_suits U c d
  suits-one c d f h = ap₂ (suits_by c d) f h

  pub misplaced-one : (p : Place) (given : Option rules.ValueType) → AgreeAt T U p → AgreeAtHad given → misplaced T p given ≡ misplaced U p given
  misplaced-one Anywhere None p g = refl
  misplaced-one Anywhere (Some v) p g = refl
  misplaced-one AnyValue None p g = refl
  misplaced-one AnyValue (Some v) p g = refl
  misplaced-one (Of face.Int) None p g = refl
  misplaced-one (Of face.Bool) None p g = refl
  misplaced-one (Of face.Args) None p g = refl
  misplaced-one (Of (face.Named d)) None p g = ap (λ (h : Option Face). misplaced (λ _. h) (Of (face.Named d)) None) p
  misplaced-one (Of face.Int) (Some v) p g = refl
  misplaced-one (Of face.Bool) (Some v) p g = refl
  misplaced-one (Of face.Args) (Some v) p g = refl
  misplaced-one (Of (face.Named d)) (Some rules.Int) p g = ap (λ (h : Option Face). misplaced (λ _. h) (Of (face.Named d)) (Some rules.Int)) p
  misplaced-one (Of (face.Named d)) (Some rules.Boolean) p g = ap (λ (h : Option Face). misplaced (λ _. h) (Of (face.Named d)) (Some rules.Boolean)) p
  misplaced-one (Of (face.Named d)) (Some rules.Null) p g = ap (λ (h : Option Face). misplaced (λ _. h) (Of (face.Named d)) (Some rules.Null)) p
  misplaced-one (Of (face.Named d)) (Some (rules.Named c)) p g =
      ap₂ (λ (known fits : Bool). found_unless (not known || fits) code.WrongType)
      (ap (λ (h : Option Face). is_known (λ _. h) (face.Named d)) p) (suits-one c d g p)
  misplaced-one (Beside rules.Int) None p g = refl
  misplaced-one (Beside rules.Boolean) None p g = refl
  misplaced-one (Beside rules.Null) None p g = refl
  misplaced-one (Beside (rules.Named c)) None p g = refl
  misplaced-one (Beside rules.Int) (Some v) p g = refl
  misplaced-one (Beside rules.Boolean) (Some v) p g = refl
  misplaced-one (Beside rules.Null) (Some v) p g = refl
  misplaced-one (Beside (rules.Named c)) (Some rules.Int) p g = refl
  misplaced-one (Beside (rules.Named c)) (Some rules.Boolean) p g = refl
  misplaced-one (Beside (rules.Named c)) (Some rules.Null) p g = refl
  misplaced-one (Beside (rules.Named c)) (Some (rules.Named d)) p g =
      ap₂ (λ (x y : Bool). found_unless (x || y) code.WrongType) (suits-one c d p g) (suits-one d c g p)
  misplaced-one Locked None p g = refl
  misplaced-one Locked (Some v) p g = refl
  misplaced-one Started None p g = refl
  misplaced-one Started (Some rules.Int) p g = refl
  misplaced-one Started (Some rules.Boolean) p g = refl
  misplaced-one Started (Some rules.Null) p g = refl
  misplaced-one Started (Some (rules.Named c)) p g = ap (λ (f : Option Face). misplaced (λ _. f) Started (Some (rules.Named c))) g

  pub found-one : (p : Place) (v : Term) → AgreeAt T U p → AgreeAtHad (judged_given (stamp_of v).ty) → found_at T p v ≡ found_at U p v
  found-one p v h g = ap (λ (o : Option FindingCode). if is_bad v then None else o) (misplaced-one p (judged_given (stamp_of v).ty) h g)

  abbrev fit_by : Option FindingCode → Bool → Bound → Bound
  fit_by found in_paren b = record { term = spoilt_if found in_paren b.term; notes = b.notes ++ finding_if found b.term }

  fit-one : (p : Place) (in_paren : Bool) (b : Bound) → AgreeAt T U p → AgreeAtHad (judged_given (stamp_of b.term).ty) → fit T p in_paren b ≡ fit U p in_paren b
  fit-one p in_paren b h g = ap (λ (o : Option FindingCode). fit_by o in_paren b) (found-one p b.term h g)

  -- ---- who agree on what an answer rests on

  module _ (class : Name) where
    pub declared-agrees : (ty : FaceTy) → AgreeOn T U class (consults ty) → AgreeAtType T U ty
    declared-agrees face.Int h = tt
    declared-agrees face.Bool h = tt
    declared-agrees face.Args h = tt
    declared-agrees (face.Named c) h = h c (inr (inr (inl refl)))

    pub result-agrees : (given : Option FaceTy) → AgreeOn T U class (consults_result given) → AgreeAtGiven given
    result-agrees None h = tt
    result-agrees (Some ty) h = declared-agrees ty h

    pub params-agree : (params : List ParamFace) → AgreeOn T U class (consults_params params) → AgreeAtParams params
    params-agree [] h = tt
    params-agree (p ∷ ps) h =
        (declared-agrees p.ty (agree-front T U class (consults p.ty) (consults_params ps) h), params-agree ps (agree-back T U class (consults p.ty) (consults_params ps) h))

    pub type-agrees : (notes : List Note) → AgreeOn T U class notes → (ty : Option ValueType) → IsAskedType class notes ty → AgreeAtHad (judged_given ty)
    type-agrees notes agree None h = tt
    type-agrees notes agree (Some value.Int) h = tt
    type-agrees notes agree (Some value.Boolean) h = tt
    type-agrees notes agree (Some value.Null) h = tt
    type-agrees notes agree (Some (value.Named c)) h = agree c h

    pub fitted-one : (p : Place) (in_paren : Bool) (b other : Bound) → AgreeAt T U p → AgreeOn T U class (fit T p in_paren b).notes
        → IsAskedType class b.notes (stamp_of b.term).ty → (AgreeOn T U class b.notes → b ≡ other) → fit T p in_paren b ≡ fit U p in_paren other
    fitted-one p in_paren b other h agree asked same =
        let less = agree-front T U class b.notes (finding_if (found_at T p b.term) b.term) agree in
        fit-one p in_paren b h (type-agrees b.notes less (stamp_of b.term).ty asked) ∙ ap (fit U p in_paren) (same less)

    -- ---- names

    abbrev variable_by : ℕ → Variable → Use → Bound
    variable_by at v u = record { term = t.Local (used at at (Some v.ty) u) v.number; notes = consults v.ty }

    pub meant-one : (in_static : Bool) (at : ℕ) (name : Name) (m : Meaning) → AgreeOn T U class (meant (grounded T class in_static) at name m).notes
        → meant (grounded T class in_static) at name m ≡ meant (grounded U class in_static) at name m
    meant-one in_static at name (IsVariable v) h = ap (variable_by at v) (use-one false (Some v.ty) (declared-agrees v.ty h))
    meant-one in_static at name (IsField f) h =
        ap (own_field_by (grounded T class in_static) at f)
        (use-one (is_out_of_place in_static f.is_static) (Some f.ty) (declared-agrees f.ty (agree-front T U class (consults f.ty) _ h)))
    meant-one in_static at name IsHidden h = refl
    meant-one in_static at name IsFree h = refl

    -- ---- before a dot

    pub type_word-one : (in_static : Bool) (scope : Scope) (from : PlainExpr) → T class ≡ U class
        → type_word (grounded T class in_static) scope from ≡ type_word (grounded U class in_static) scope from
    type_word-one in_static scope (e.Name w) h = ap (λ (f : Option Face). word_if_free (meaning_in scope w.text (field_in w.text f)) w) h
    type_word-one in_static scope _ h = refl

    either-told : (known : Bool) (x y : Based) (c : Name) → IsTold x.notes c → IsTold y.notes c → IsTold (if known then x else y).notes c
    either-told true x y c p q = p
    either-told false x y c p q = q

    pub by-one : (w : Option PlainLexeme) (in_paren : Bool) (b other : Bound) → AgreeOn T U class (before_by T w (fit T AnyValue in_paren b)).notes
        → IsAskedType class b.notes (stamp_of b.term).ty → (AgreeOn T U class b.notes → b ≡ other)
        → before_by T w (fit T AnyValue in_paren b) ≡ before_by U w (fit U AnyValue in_paren other)
    by-one None in_paren b other agree asked same = ap value_before (fitted-one AnyValue in_paren b other tt agree asked same)
    by-one (Some w) in_paren b other agree asked same =
        ap (λ (f : Option Face). type_before (λ _. f) (suc w.at) w.text)
        (agree w.text (inr (inr (either-told (is_known_name T w.text) _ _ w.text (inl refl) (inl refl)))))

    named-agrees : (notes : List Note) → AgreeOn T U class notes → (c : Option Name) → IsAskedName class notes c → (name : Name) → field_named T c name ≡ field_named U c name
    named-agrees notes agree None h name = refl
    named-agrees notes agree (Some c) h name = ap (λ (f : Option Face). field_named (λ _. f) (Some c) name) (agree c h)

    -- ---- a field behind a dot

    abbrev field_by : Types → Based → PlainLexeme → Option NamedField → Bound
    field_by types b w found = record {
      term = field_made types b.base (suc w.at) w.text found;
      notes = b.notes ++ field_told types b.base (suc w.at) found;
    }

    abbrev field_used : Based → PlainLexeme → NamedField → Use → Bound
    field_used b w f u = record {
      term = field_term b.base w.text f (used (suc w.at) (first_of b.base) (Some f.ty) u);
      notes = b.notes ++ field_notes (suc w.at) f.ty u;
    }

    field_by-one : (b : Based) (w : PlainLexeme) (found : Option NamedField) → AgreeOn T U class (field_by T b w found).notes → field_by T b w found ≡ field_by U b w found
    field_by-one b w None h = refl
    field_by-one b w (Some f) h =
        ap (field_used b w f)
        (use-one (is_misuse b.base f.is_static) (Some f.ty)
        (declared-agrees f.ty (agree-front T U class (consults f.ty) _ (agree-back T U class b.notes (field_notes (suc w.at) f.ty (field_use T b.base f)) h))))

    pub selected-one : (b : Based) (w : PlainLexeme) → AgreeOn T U class (selected T b w).notes → IsAskedName class b.notes (class_before b.base) → selected T b w ≡ selected U b w
    selected-one b w h asked =
        field_by-one b w (field_named T (class_before b.base) w.text) h
        ∙ ap (field_by U b w) (named-agrees b.notes (agree-front T U class b.notes _ h) (class_before b.base) asked w.text)

    -- ---- calls

    pub method_in-one : (c : Name) (name : Name) (n : ℕ) → T c ≡ U c → method_in T c name n ≡ method_in U c name n
    method_in-one c name n h = ap (λ (f : Option Face). method_in (λ _. f) c name n) h

    pub method_named-one : (notes : List Note) → AgreeOn T U class notes → (c : Option Name) → IsAskedName class notes c → (name : Name) (n : ℕ)
        → method_named T c name n ≡ method_named U c name n
    method_named-one notes agree None h name n = refl
    method_named-one notes agree (Some c) h name n = method_in-one c name n (agree c h)

    pub method-result : (n : ℕ) (m : NamedMethod) → AgreeOn T U class (method_notes n (Some m)) → AgreeAtGiven m.result
    method-result n m h = result-agrees m.result (agree-front T U class (consults_result m.result) (consults_params m.params) h)

    pub method-params : (n : ℕ) (m : Option NamedMethod) → AgreeOn T U class (method_notes n m) → AgreeAtParams (method_params m)
    method-params n None h = tt
    method-params n (Some m) h = params-agree m.params (agree-back T U class (consults_result m.result) (consults_params m.params) h)

    -- what the notes of a `new` tell besides the class
    made-later : (c : Name) (n : ℕ) (m : Option MemberFace) (d : Name) → IsAsked class (consults_params (maker_params m)) d → IsAsked class (made_notes c n m) d
    made-later c n m d (inl x) = inl x
    made-later c n m d (inr (inl x)) = inr (inl x)
    made-later c n m d (inr (inr x)) = inr (inr (inr x))

    pub maker-params : (c : Name) (n : ℕ) (m : Option MemberFace) → AgreeOn T U class (made_notes c n m) → AgreeAtParams (maker_params m)
    maker-params c n m h = params-agree (maker_params m) (λ d a. h d (made-later c n m d a))

    abbrev own_call_by : Bool → PlainLexeme → ℕ → NamedMethod → Bounds → Use → Bound
    own_call_by in_static w n m args u = record {
      term = own_call_term (grounded T class in_static) (suc w.at) m args.terms (used (suc w.at) (suc w.at) m.result u);
      notes = method_notes n (Some m) ++ (args.notes ++ use_notes (suc w.at) u);
    }

    pub own_called-one : (in_static : Bool) (w : PlainLexeme) (n : ℕ) (m : Option NamedMethod) (args : Bounds)
        → AgreeOn T U class (own_called (grounded T class in_static) w n m args).notes
        → own_called (grounded T class in_static) w n m args ≡ own_called (grounded U class in_static) w n m args
    own_called-one in_static w n None args h = refl
    own_called-one in_static w n (Some m) args h =
        ap (own_call_by in_static w n m args)
        (call_use-one args.terms (is_out_of_place in_static m.is_static) m.result (method-result n m (agree-front T U class (method_notes n (Some m)) _ h)))

    abbrev call_by : Based → PlainLexeme → ℕ → NamedMethod → Bounds → Use → Bound
    call_by b w n m args u = record {
      term = method_term b.base m.named args.terms (used (suc w.at) (first_of b.base) m.result u);
      notes = b.notes ++ (method_notes n (Some m) ++ (args.notes ++ use_notes (suc w.at) u));
    }

    pub called_on-one : (b : Based) (w : PlainLexeme) (n : ℕ) (m : Option NamedMethod) (args : Bounds) → AgreeOn T U class (called_on T b w n m args).notes
        → called_on T b w n m args ≡ called_on U b w n m args
    called_on-one b w n None args h = refl
    called_on-one b w n (Some m) args h =
        ap (call_by b w n m args)
        (call_use-one args.terms (is_misuse b.base m.is_static) m.result
        (method-result n m (agree-front T U class (method_notes n (Some m)) _ (agree-back T U class b.notes _ h))))

    -- ---- `new`

    pub made_by-one : (c : Name) (n : ℕ) → T c ≡ U c → made_by T c n ≡ made_by U c n
    made_by-one c n h = ap (λ (f : Option Face). made_by (λ _. f) c n) h

    pub newly_made-one : (at : ℕ) (w : PlainLexeme) (n : ℕ) (m : Option MemberFace) (args : Bounds) → T w.text ≡ U w.text → newly_made T at w n m args ≡ newly_made U at w n m args
    newly_made-one at w n m args h = ap (λ (f : Option Face). newly_made (λ _. f) at w n m args) h

    -- ---- operators

    pub left-agrees : (op : BinaryOp) → AgreeAt T U (left_place op)
    left-agrees operator.Or = tt
    left-agrees operator.And = tt
    left-agrees operator.Equal = tt
    left-agrees operator.NotEqual = tt
    left-agrees _ = tt

    right-agrees : (op : BinaryOp) (ty : Option ValueType) → AgreeAtHad (judged_given ty) → AgreeAt T U (right_place op ty)
    right-agrees operator.Equal None h = tt
    right-agrees operator.Equal (Some v) h = h
    right-agrees operator.NotEqual None h = tt
    right-agrees operator.NotEqual (Some v) h = h
    right-agrees operator.Or ty h = tt
    right-agrees operator.And ty h = tt
    right-agrees _ ty h = tt

    abbrev two_by : BinaryOp → ℕ → Bound → Bool → Bound → Option FindingCode → Bound
    two_by op at a in_paren b found = record {
      term = joined op at a.term (spoilt_if found in_paren b.term);
      notes = a.notes ++ (b.notes ++ finding_if found b.term);
    }

    pub with_two-one : (op : BinaryOp) (at : ℕ) (a : Bound) (in_paren : Bool) (b : Bound) → AgreeOn T U class a.notes → AgreeOn T U class b.notes
        → IsAskedType class a.notes (stamp_of a.term).ty → IsAskedType class b.notes (stamp_of b.term).ty → with_two T op at a in_paren b ≡ with_two U op at a in_paren b
    with_two-one op at a in_paren b first second left right =
        ap (two_by op at a in_paren b)
        (found-one (right_place op (stamp_of a.term).ty) b.term
        (right-agrees op (stamp_of a.term).ty (type-agrees a.notes first (stamp_of a.term).ty left))
        (type-agrees b.notes second (stamp_of b.term).ty right))

    -- ---- arguments

    pub argument-agrees : (params : List ParamFace) → AgreeAtParams params → AgreeAt T U (argument_place params)
    argument-agrees [] h = tt
    argument-agrees (p ∷ ps) h = h.0

    pub rest-agree : (params : List ParamFace) → AgreeAtParams params → AgreeAtParams (drop 1 params)
    rest-agree [] h = tt
    rest-agree (p ∷ ps) h = h.1
