-- Typed expressions give values of their types, and typed statements fit.
use Rattle.std.proofs.Common.{◌≡◌, ℕ, Bool, true, false, List, [], ◌∷◌, Option, Some, None, refl, sym, ◌∙◌, ap, subst, codes, reverse, slice_get, length, ◌||◌, ◌&&◌, if◌then◌else◌}
use Rattle.std.specs.Prelude.{is_some, ◌==◌}
use Rattle.std.specs.Str.{bytes_eq}
use Rattle.std.specs.Option.{option_map, option_to_list}
use Rattle.std.proofs.lemmas.Option.{slice_get-map}
use Rattle.std.proofs.lemmas.Slice.Eq.{bytes_eq-Decides}
use Rattle.class_faces.specs.declared.face.FaceTy.{FaceTy}
use Rattle.class_faces.specs.declared.face.FaceTy.TheVariants as face
use Rattle.class_faces.specs.declared.face.FieldFace.{FieldFace}
use Rattle.class_faces.specs.declared.face.ParamFace.{ParamFace}
use Rattle.bound_tree.specs.declared.name.FieldName.{FieldName}
use Rattle.bound_tree.specs.declared.name.ValueType.{ValueType}
use Rattle.bound_tree.specs.declared.name.ValueType.TheVariants as value
use Rattle.bound_tree.specs.declared.tree.Literal.{Literal}
use Rattle.bound_tree.specs.declared.tree.Literal.TheVariants as literal
use Rattle.bound_tree.specs.declared.tree.Stamp.{Stamp}
use Rattle.bound_tree.specs.declared.tree.UnaryOp.TheVariants as unary
use Rattle.bound_tree.specs.Tree.{Term, Terms, Statement, Statements, stamp_of}
use Rattle.bound_tree.specs.Tree as t
use Rattle.core_model.specs.declared.instr.Op.{Op}
use Rattle.core_model.specs.declared.instr.Op.TheVariants as op
use Rattle.core_model.specs.declared.program.Program.{Program}
use Rattle.java_tree.specs.declared.file.TypeKind.{TypeKind}
use Rattle.core_model.specs.declared.program.TheConstants.{RUN}
use Rattle.core_model.specs.declared.instr.Known.{Known}
use Rattle.core_model.specs.declared.instr.Known.TheVariants as known
use Rattle.expression_binding.specs.Methods.{NamedMethod, method_in, is_run, run_method, face_method, is_made, maker, maker_params}
use Rattle.typed_units.specs.Named.{IsField}
use Rattle.core_types.specs.Types.{Ty, IntType, BoolType, TextType, NullType, of_class, ObjectType, RunnableType, ClassType, AnyType, Types, UnitTypes, locals_of}
use Rattle.core_types.specs.Belonging.{Suits}
use Rattle.core_types.specs.Slots.{Use, Goes, Wrong}
use Rattle.core_types.specs.Uses.{pushed, popped, returned, of_field, field_read, field_kept, field_written, of_call}
use Rattle.lowering.specs.Numbers.{Numbers, class_number, class_known, or_zero}
use Rattle.lowering.specs.declared.instr.Constant.TheVariants as constant
use Rattle.lowering.specs.declared.instr.NamedPlain.TheVariants as plain
use Rattle.lowering.specs.Lower.{plainly, classed, made, constant_of, count, is_over_all, least, has_value}
use Rattle.lowering.specs.Operands.{Kind, used, Chosen, Negates, Turns, Pushes, Gives, GivesAll, GivenTo, Assigns, Steps, Changes, Runs, Drops, Fits, FitsAll}
use Rattle.lowering.specs.Kinds.{types_asked}
use Rattle.name_rules.specs.Types.{Name, is_declared, suits}
use Rattle.name_rules.specs.Types as rules
use Rattle.expression_binding.specs.Stamps.{type_of, type_given, judged_type}
use Rattle.typed_units.specs.Frames.{Frame, IsLocal, Suited, given_suits, given_compares, given_starts, given_locks, declared_as, type_in}
use Rattle.typed_units.specs.Statements.{StatementTyped, StatementsTyped, SuitsGiven, IsTarget}
use Rattle.typed_units.specs.Terms.{TermTyped, TermsTyped, BinaryFits, literal_type, binary_type}
use Rattle.typed_units.proofs.Giving.{typed-gives}
use Rattle.program_types.specs.Types.{param_type, value_type, value_types, result_type, named_type, param_types}
use Rattle.program_types.specs.Numbering.{NumbersFit}
use Rattle.program_types.proofs.Suiting.{itself, suits_any, suiting, starting, locks, named_declared, named_runnable, and_first, and_second}

-- the type of what suits a place
record Suiting (types : rules.Types) (e : Term) (ty : FaceTy) : Type 0 where
  own : ValueType
  is : type_in e ≡ Some own
  fits : suits types (judged_type own) ty ≡ true

suited : (types : rules.Types) (e : Term) (ty : FaceTy) → Suited types e ty → Suiting types e ty
suited types e ty h = go (type_in e) refl h
  where
    go : (o : Option ValueType) → type_in e ≡ o → given_suits types o ty ≡ true → Suiting types e ty
    go None is h = absurd (let no : ⊥ = cc in no)
    go (Some v) is h = record { own = v; is = is; fits = h }

module _ (p : Program) (T : Types) (u : UnitTypes) (r : Numbers) (f : Frame) (n : NumbersFit p T r f.types) (same : locals_of u ≡ value_types r f.locals) (result : u.result ≡ result_type r f.result) where
  abbrev K : Kind Ty
  K = types_asked p T u r

  local_is : (x : ℕ) (ty : Option ValueType) (v : ValueType) → IsLocal f x ty → ty ≡ Some v → slice_get (locals_of u) x ≡ Some (value_type r v)
  local_is x ty v l is =
      ap (λ (ts : List Ty). slice_get ts x) same ∙ slice_get-map (value_type r) f.locals x ∙ ap (option_map (value_type r)) (l.kept ∙ (let e : Some l.own ≡ Some v = sym l.is ∙ is in e))

  literal_gives : (at : ℕ) (l : Literal) (v : ValueType) → Some (literal_type l) ≡ Some v → Pushes K at (constant_of l) (value_type r v)
  literal_gives at l v e = subst (λ (o : Option ValueType). Turns K (plainly at) (plain.Const (constant_of l)) [] (given o ∷ [])) e (go l)
    where
      given : Option ValueType → Ty
      given None = NullType
      given (Some w) = value_type r w

      go : (l : Literal) → Pushes K at (constant_of l) (value_type r (literal_type l))
      go (literal.Int x) = refl
      go (literal.Boolean b) = refl
      go literal.Null = refl
      go (literal.Str s) = refl

  -- the same where the type is told otherwise
  retyped : (e : Term) (v w : ValueType) → Some v ≡ Some w → Gives K e (value_type r v) → Gives K e (value_type r w)
  retyped e v w is h = subst (λ (x : ValueType). Gives K e (value_type r x)) (let e : v ≡ w = cc in e) h

  -- ---- classes

  field_declared : (c name : Name) (g : FieldFace) → rules.field_of f.types c name ≡ Some g → is_declared f.types c ≡ true
  field_declared c name g h = go (f.types c) h
    where
      go : (o : Option rules.Face) → rules.field_in name o ≡ Some g → is_some (rules.kind_in o) ≡ true
      go None e = absurd (let no : ⊥ = cc in no)
      go (Some x) e = refl

  known_class : (c : Name) → is_declared f.types c ≡ true → class_known (r.class c) ≡ known.Class (class_number r c)
  known_class c d = let h = n.declared c d in ap class_known h.is ∙ ap (λ (o : Option ℕ). known.Class (or_zero o)) (sym h.is)

  base_suits : (c : Name) → is_declared f.types c ≡ true → Suits T (named_type r c) (ClassType (class_number r c))
  base_suits c d = subst (λ (s : Ty). Suits T s (ClassType (class_number r c))) (sym (named_declared p T r f.types c n d)) (itself T (ClassType (class_number r c)))

  field_is : (named : FieldName) (ty : Option ValueType) (v : ValueType) (h : IsField f.types false named ty) → ty ≡ Some v
      → slice_get (of_class T (class_number r named.class)).own (r.field named.class named.name) ≡ Some (value_type r v)
  field_is named ty v h is =
      n.own named.class named.name h.field h.found h.kind ∙ ap (λ (o : Option ValueType). result_type r o) (sym h.gives ∙ is)

  static_is : (named : FieldName) (ty : Option ValueType) (v : ValueType) (h : IsField f.types true named ty) → ty ≡ Some v
      → slice_get (of_class T (class_number r named.class)).statics (r.field named.class named.name) ≡ Some (value_type r v)
  static_is named ty v h is =
      n.statics named.class named.name h.field h.found h.kind ∙ ap (λ (o : Option ValueType). result_type r o) (sym h.gives ∙ is)

  reads : (at : ℕ) (named : FieldName) (ty : Option ValueType) (v : ValueType) (h : IsField f.types false named ty) → ty ≡ Some v
      → Turns K (classed at named.class) (plain.Field named.name) (ClassType (class_number r named.class) ∷ []) (value_type r v ∷ [])
  reads at named ty v h is =
      ap (λ (k : Known). of_field field_read T k (r.field named.class named.name)) (known_class named.class (field_declared named.class named.name h.field h.found))
      ∙ ap (field_read (class_number r named.class)) (field_is named ty v h is)

  keeps : (at : ℕ) (named : FieldName) (ty : Option ValueType) (v : ValueType) (h : IsField f.types false named ty) → ty ≡ Some v
      → Turns K (classed at named.class) (plain.FieldKeep named.name) (ClassType (class_number r named.class) ∷ [])
      (value_type r v ∷ ClassType (class_number r named.class) ∷ [])
  keeps at named ty v h is =
      ap (λ (k : Known). of_field field_kept T k (r.field named.class named.name)) (known_class named.class (field_declared named.class named.name h.field h.found))
      ∙ ap (field_kept (class_number r named.class)) (field_is named ty v h is)

  writes : (at : ℕ) (named : FieldName) (ty : Option ValueType) (v : ValueType) (h : IsField f.types false named ty) → ty ≡ Some v
      → Turns K (classed at named.class) (plain.PutField named.name) (value_type r v ∷ ClassType (class_number r named.class) ∷ []) []
  writes at named ty v h is =
      ap (λ (k : Known). of_field field_written T k (r.field named.class named.name)) (known_class named.class (field_declared named.class named.name h.field h.found))
      ∙ ap (field_written (class_number r named.class)) (field_is named ty v h is)

  -- ---- `new`

  bare : (c : Name) → rules.is_object c ≡ true → maker_params (maker f.types c) ≡ []
  bare c h = go (is_declared f.types c) refl
    where
      none : (o : Option rules.Face) → is_some (rules.kind_in o) ≡ false → maker_params (rules.maker_in c o) ≡ []
      none None e = refl
      none (Some x) e = absurd (let no : ⊥ = cc in no)

      built_in : (a b : Bool) → a ≡ true → (a || b) ≡ false → ⊥
      built_in true b e g = cc
      built_in false b e g = cc

      go : (b : Bool) → is_declared f.types c ≡ b → maker_params (maker f.types c) ≡ []
      go true e = absurd (built_in (rules.is_object c) (rules.is_string c || rules.is_runnable c) h (n.apart c e))
      go false e = none (f.types c) e

  makes : (at : ℕ) (c : Name) (k : ℕ) → is_made f.types c k ≡ true
      → Turns K (plainly at) (made c k) (reverse (param_types r (maker_params (maker f.types c)))) (named_type r c ∷ [])
  makes at c k h = go (rules.is_object c) refl
    where
      class_of_made : (a b : Bool) → a ≡ false → ((a || b) && (length (maker_params (maker f.types c)) == k)) ≡ true → b ≡ true
      class_of_made true b e g = absurd (let no : ⊥ = cc in no)
      class_of_made false true e g = refl
      class_of_made false false e g = g

      class_declared : (o : Option TypeKind) → rules.is_class_kind o ≡ true → is_some o ≡ true
      class_declared None e = e
      class_declared (Some x) e = refl

      declared : rules.is_object c ≡ false → is_declared f.types c ≡ true
      declared e = class_declared (rules.kind_in (f.types c)) (class_of_made (rules.is_object c) (rules.is_class f.types c) e h)

      go : (b : Bool) → rules.is_object c ≡ b → Turns K (plainly at) (made c k) (reverse (param_types r (maker_params (maker f.types c)))) (named_type r c ∷ [])
      go true e =
          ap (λ (b : Bool). used K (plainly at) (if b then plain.MakePlain else plain.Make c k)) e
          ∙ ap (λ (ps : List ParamFace). Goes (reverse (param_types r ps)) (ObjectType ∷ [])) (sym (bare c e))
          ∙ ap (λ (s : Ty). Goes (reverse (param_types r (maker_params (maker f.types c)))) (s ∷ []))
          (sym (ap (λ (b : Bool). if b then ObjectType else (if rules.is_string c then TextType else (if rules.is_runnable c then RunnableType else ClassType (class_number r c)))) e))
      go false e =
          ap (λ (b : Bool). used K (plainly at) (if b then plain.MakePlain else plain.Make c k)) e
          ∙ n.makes c k h e
          ∙ ap (λ (s : Ty). Goes (reverse (param_types r (maker_params (maker f.types c)))) (s ∷ [])) (sym (named_declared p T r f.types c n (declared e)))

  -- ---- calls

  method_declared : (c name : Name) (k : ℕ) (m : NamedMethod) → is_run c name k ≡ false → method_in f.types c name k ≡ Some m → is_declared f.types c ≡ true
  method_declared c name k m plain h = go (is_run c name k) (f.types c) plain h
    where
      go : (b : Bool) (o : Option rules.Face) → b ≡ false
          → (if b then Some (run_method c name) else face_method c name (rules.member_in (rules.member_key c name k) o)) ≡ Some m → is_some (rules.kind_in o) ≡ true
      go true o e g = absurd (let no : ⊥ = cc in no)
      go false None e g = absurd (let no : ⊥ = cc in no)
      go false (Some x) e g = refl

  abbrev gives_of_method : Name → NamedMethod → Use Ty
  gives_of_method c m = Goes (reverse (named_type r c ∷ param_types r m.params)) (option_to_list (result_type r (type_given m.result)))

  run_called : (c name : Name) (k : ℕ) → is_run c name k ≡ true
      → of_call p T (class_known (r.class c)) (r.member name) k ≡ gives_of_method c (run_method c name)
  run_called c name k h =
      ap (λ (kn : Known). of_call p T kn (r.member name) k) (ap class_known (ap r.class class_is ∙ n.runnable))
      ∙ ap (λ (m : ℕ). if (m == RUN) && (k == 0) then Goes (RunnableType ∷ []) [] else Wrong) (ap r.member name_is ∙ n.run)
      ∙ ap (λ (b : Bool). if b then Goes (RunnableType ∷ []) [] else Wrong) none
      ∙ ap (λ (s : Ty). Goes (s ∷ []) []) (sym (named_runnable r c runnable))
    where
      runnable : rules.is_runnable c ≡ true
      runnable = and_first (rules.is_runnable c) (bytes_eq name (codes "run") && (k == 0)) h

      rest : (bytes_eq name (codes "run") && (k == 0)) ≡ true
      rest = and_second (rules.is_runnable c) (bytes_eq name (codes "run") && (k == 0)) h

      class_is : c ≡ codes "Runnable"
      class_is = (bytes_eq-Decides c (codes "Runnable")).0 runnable

      name_is : name ≡ codes "run"
      name_is = (bytes_eq-Decides name (codes "run")).0 (and_first (bytes_eq name (codes "run")) (k == 0) rest)

      none : (k == 0) ≡ true
      none = and_second (bytes_eq name (codes "run")) (k == 0) rest

  calls : (at : ℕ) (c name : Name) (k : ℕ) (m : NamedMethod) → method_in f.types c name k ≡ Some m → m.is_static ≡ false
      → used K (classed at c) (plain.Call name k) ≡ gives_of_method c m
  calls at c name k m h dynamic = go (is_run c name k) refl
    where
      runs : (b : Bool) → b ≡ true → (if b then Some (run_method c name) else face_method c name (rules.member_in (rules.member_key c name k) (f.types c))) ≡ Some m → run_method c name ≡ m
      runs true e g = cc
      runs false e g = absurd (let no : ⊥ = cc in no)

      go : (b : Bool) → is_run c name k ≡ b → used K (classed at c) (plain.Call name k) ≡ gives_of_method c m
      go true e = run_called c name k e ∙ ap (gives_of_method c) (runs (is_run c name k) e h)
      go false e =
          let d = method_declared c name k m e h in
          ap (λ (kn : Known). of_call p T kn (r.member name) k) (known_class c d)
          ∙ n.calls c name k m d h dynamic
          ∙ ap (λ (s : Ty). Goes (reverse (s ∷ param_types r m.params)) (option_to_list (result_type r (type_given m.result)))) (sym (named_declared p T r f.types c n d))

  calls_static : (at : ℕ) (c name : Name) (k : ℕ) (m : NamedMethod) → method_in f.types c name k ≡ Some m → m.is_static ≡ true
      → used K (classed at c) (plain.CallStatic c name k) ≡ Goes (reverse (param_types r m.params)) (option_to_list (result_type r (type_given m.result)))
  calls_static at c name k m h static = go (is_run c name k) refl
    where
      runs : (b : Bool) → b ≡ true → (if b then Some (run_method c name) else face_method c name (rules.member_in (rules.member_key c name k) (f.types c))) ≡ Some m → run_method c name ≡ m
      runs true e g = cc
      runs false e g = absurd (let no : ⊥ = cc in no)

      go : (b : Bool) → is_run c name k ≡ b → used K (classed at c) (plain.CallStatic c name k) ≡ Goes (reverse (param_types r m.params)) (option_to_list (result_type r (type_given m.result)))
      go true e = absurd (let g : false ≡ true = ap (λ (x : NamedMethod). x.is_static) (runs (is_run c name k) e h) ∙ static in let no : ⊥ = cc in no)
      go false e = n.calls_static c name k m (method_declared c name k m e h) h static

  -- ---- expressions

  negated : (at : ℕ) (a : Term) (b : Bool) → Negates K at a IntType → Chosen b (Pushes K at (constant.Int least) IntType) (Negates K at a IntType)
  negated at a true h = refl
  negated at a false h = h

  suits_on : (s t w : Ty) → Suits T s t → Suits T t w → Suits T s w
  suits_on s t w h g os x q = g os x (h os x q)

  abbrev method_gives : Name → List ParamFace → Option ValueType → Use Ty
  method_gives c params o = Goes (reverse (named_type r c ∷ param_types r params)) (option_to_list (result_type r o))

  abbrev static_gives : List ParamFace → Option ValueType → Use Ty
  static_gives params o = Goes (reverse (param_types r params)) (option_to_list (result_type r o))

  -- the expression gives a value of its type
  abbrev Given : Term → Type 0
  Given e = (v : ValueType) → type_in e ≡ Some v → Gives K e (value_type r v)

  ints : (s : Stamp) (o : Op) (a b : Term) (to : Ty) → Given a → Given b → Suited f.types a face.Int → Suited f.types b face.Int
      → used K (plainly s.at) (plain.Op o) ≡ Goes (IntType ∷ IntType ∷ []) (to ∷ []) → Gives K (t.Binary s o a b) to
  ints s o a b to h i ha hb turns =
      let g = suited f.types a face.Int ha in
      let j = suited f.types b face.Int hb in (
        value_type r g.own,
        IntType,
        value_type r j.own,
        IntType,
        h g.own g.is,
        suiting p T r f.types n g.own face.Int g.fits,
        i j.own j.is,
        suiting p T r f.types n j.own face.Int j.fits,
        turns,
      )

  values : (s : Stamp) (o : Op) (a b : Term) → Given a → Given b → (x : Option ValueType) → type_in a ≡ x → (y : Option ValueType) → type_in b ≡ y
      → given_compares f.types x y ≡ true → used K (plainly s.at) (plain.Op o) ≡ Goes (AnyType ∷ AnyType ∷ []) (BoolType ∷ []) → Gives K (t.Binary s o a b) BoolType
  values s o a b h i None ha y hb g turns = absurd (let no : ⊥ = cc in no)
  values s o a b h i (Some x) ha None hb g turns = absurd (let no : ⊥ = cc in no)
  values s o a b h i (Some x) ha (Some y) hb g turns =
      (value_type r x, AnyType, value_type r y, AnyType, h x ha, suits_any T (value_type r x), i y hb, suits_any T (value_type r y), turns)

  operands : (s : Stamp) (o : Op) (a b : Term) → Given a → Given b → BinaryFits f.types o a b → Gives K (t.Binary s o a b) (value_type r (binary_type o))
  operands s op.Add a b h i g = ints s op.Add a b IntType h i g.0 g.1 refl
  operands s op.Subtract a b h i g = ints s op.Subtract a b IntType h i g.0 g.1 refl
  operands s op.Multiply a b h i g = ints s op.Multiply a b IntType h i g.0 g.1 refl
  operands s op.Divide a b h i g = ints s op.Divide a b IntType h i g.0 g.1 refl
  operands s op.Remainder a b h i g = ints s op.Remainder a b IntType h i g.0 g.1 refl
  operands s op.Less a b h i g = ints s op.Less a b BoolType h i g.0 g.1 refl
  operands s op.Greater a b h i g = ints s op.Greater a b BoolType h i g.0 g.1 refl
  operands s op.AtMost a b h i g = ints s op.AtMost a b BoolType h i g.0 g.1 refl
  operands s op.AtLeast a b h i g = ints s op.AtLeast a b BoolType h i g.0 g.1 refl
  operands s op.Equal a b h i g = values s op.Equal a b h i (type_in a) refl (type_in b) refl g refl
  operands s op.NotEqual a b h i g = values s op.NotEqual a b h i (type_in a) refl (type_in b) refl g refl

  mutual
    gives : (e : Term) (v : ValueType) → TermTyped f e → type_in e ≡ Some v → Gives K e (value_type r v)
    gives (t.Const s l) v h is = literal_gives s.at l v (sym h ∙ is)
    gives (t.This s) v h is = ap pushed (local_is 0 s.ty v h is)
    gives (t.Local s x) v h is = ap pushed (local_is x s.ty v h is)
    gives (t.Field s b named) v h is = (
      named_type r named.class,
      ClassType (class_number r named.class),
      gives b (value.Named named.class) h.0 h.1,
      base_suits named.class (field_declared named.class named.name h.2.field h.2.found),
      reads s.at named s.ty v h.2 is,
    )
    gives (t.Static s named) v h is = ap pushed (static_is named s.ty v h is)
    gives (t.New s c es) v h is =
        retyped (t.New s c es) (value.Named c) v (sym h.0 ∙ is)
        (param_types r (maker_params (maker f.types c)), gives_all (maker_params (maker f.types c)) es h.2, makes s.at c (count es) h.1)
    gives (t.Call s e m es) v h is = (
      named_type r m.class,
      named_type r m.class,
      param_types r h.2.0.method.params,
      gives e (value.Named m.class) h.0 h.1,
      itself T (named_type r m.class),
      gives_all h.2.0.method.params es h.2.1,
      calls s.at m.class m.name (count es) h.2.0.method h.2.0.found h.2.0.kind ∙ ap (method_gives m.class h.2.0.method.params) (sym h.2.0.gives ∙ is),
    )
    gives (t.CallStatic s m es) v h is = (
      param_types r h.0.method.params,
      gives_all h.0.method.params es h.1,
      calls_static s.at m.class m.name (count es) h.0.method h.0.found h.0.kind ∙ ap (static_gives h.0.method.params) (sym h.0.gives ∙ is),
    )
    gives (t.Unknown s k es) v h is = absurd h
    gives (t.UnknownField s b k) v h is = absurd h
    gives (t.UnknownCall s e k es) v h is = absurd h
    gives (t.Unary s unary.Not a) v h is =
        let g = suited f.types a face.Bool h.1 in
        retyped (t.Unary s unary.Not a) value.Boolean v (sym h.2 ∙ is)
        (value_type r g.own, BoolType, gives a g.own h.0 g.is, suiting p T r f.types n g.own face.Bool g.fits, refl)
    gives (t.Unary s unary.Negate a) v h is =
        let g = suited f.types a face.Int h.1 in
        retyped (t.Unary s unary.Negate a) value.Int v (sym h.2 ∙ is)
        (negated s.at a (is_over_all a) (value_type r g.own, IntType, gives a g.own h.0 g.is, suiting p T r f.types n g.own face.Int g.fits, refl))
    gives (t.And s a b) v h is =
        let g = suited f.types a face.Bool h.2.0 in
        let i = suited f.types b face.Bool h.2.1 in
        retyped (t.And s a b) value.Boolean v (sym h.3 ∙ is) (
          value_type r g.own,
          value_type r i.own,
          BoolType,
          gives a g.own h.0 g.is,
          suiting p T r f.types n g.own face.Bool g.fits,
          gives b i.own h.1 i.is,
          refl,
          λ (w : Ty) (q : Suits T BoolType w). (suits_on (value_type r i.own) BoolType w (suiting p T r f.types n i.own face.Bool i.fits) q, q),
        )
    gives (t.Or s a b) v h is =
        let g = suited f.types a face.Bool h.2.0 in
        let i = suited f.types b face.Bool h.2.1 in
        retyped (t.Or s a b) value.Boolean v (sym h.3 ∙ is) (
          value_type r g.own,
          value_type r i.own,
          BoolType,
          gives a g.own h.0 g.is,
          suiting p T r f.types n g.own face.Bool g.fits,
          gives b i.own h.1 i.is,
          refl,
          λ (w : Ty) (q : Suits T BoolType w). (suits_on (value_type r i.own) BoolType w (suiting p T r f.types n i.own face.Bool i.fits) q, q),
        )
    gives (t.Binary s o a b) v h is = retyped (t.Binary s o a b) (binary_type o) v (sym h.3 ∙ is) (operands s o a b (λ (x : ValueType) (e : type_in a ≡ Some x). gives a x h.0 e) (λ (x : ValueType) (e : type_in b ≡ Some x). gives b x h.1 e) h.2)

    gives_all : (params : List ParamFace) (es : Terms) → TermsTyped f params es → GivesAll K es (param_types r params)
    gives_all params t.no_terms h = ap (param_types r) h
    gives_all params (t.term e es) h =
        let g = suited f.types e h.0.ty h.4 in (
          value_type r g.own,
          param_type r h.0,
          param_types r h.1,
          gives e g.own h.3 g.is,
          suiting p T r f.types n g.own h.0.ty g.fits,
          gives_all h.1 es h.5,
          ap (param_types r) h.2,
        )

  -- the value of an expression that suits a declared type
  given_to : (e : Term) (ty : FaceTy) → TermTyped f e → Suited f.types e ty → GivenTo K e (value_type r (type_of ty))
  given_to e ty h s = let g = suited f.types e ty s in (value_type r g.own, gives e g.own h g.is, suiting p T r f.types n g.own ty g.fits)

  -- ---- statements

  told : (ty : ValueType) → type_of (declared_as ty) ≡ ty
  told value.Int = refl
  told value.Boolean = refl
  told value.Null = refl
  told (value.Named c) = refl

  given_as : (e : Term) (ty : ValueType) → TermTyped f e → Suited f.types e (declared_as ty) → GivenTo K e (value_type r ty)
  given_as e ty h s = subst (λ (v : ValueType). GivenTo K e (value_type r v)) (told ty) (given_to e (declared_as ty) h s)

  assigned : (e : Term) (ty : Option ValueType) (v : ValueType) → ty ≡ Some v → TermTyped f e → SuitsGiven f.types e ty → GivenTo K e (value_type r v)
  assigned e None v is h s = absurd s
  assigned e (Some ty) v is h s = subst (λ (w : ValueType). GivenTo K e (value_type r w)) (let same : ty ≡ v = cc in same) (given_as e ty h s)

  assigns : (to e : Term) → IsTarget to → TermTyped f to → TermTyped f e → SuitsGiven f.types e (type_in to) → Assigns K to e
  assigns (t.Local s x) e i h g q = (value_type r h.own, assigned e s.ty h.own h.is g q, ap popped (local_is x s.ty h.own h h.is))
  assigns (t.Field s b named) e i h g q = (
    ClassType (class_number r named.class),
    value_type r (type_of h.2.field.ty),
    (named_type r named.class, gives b (value.Named named.class) h.0 h.1, base_suits named.class (field_declared named.class named.name h.2.field h.2.found)),
    assigned e s.ty (type_of h.2.field.ty) h.2.gives g q,
    writes s.at named s.ty (type_of h.2.field.ty) h.2 h.2.gives,
  )
  assigns (t.Static s named) e i h g q =
      (value_type r (type_of h.field.ty), assigned e s.ty (type_of h.field.ty) h.gives g q, ap popped (static_is named s.ty (type_of h.field.ty) h h.gives))
  assigns (t.Const s l) e i h g q = absurd i
  assigns (t.This s) e i h g q = absurd i
  assigns (t.New s c es) e i h g q = absurd i
  assigns (t.Call s b m es) e i h g q = absurd i
  assigns (t.CallStatic s m es) e i h g q = absurd i
  assigns (t.Unknown s k es) e i h g q = absurd i
  assigns (t.UnknownField s b k) e i h g q = absurd i
  assigns (t.UnknownCall s b k es) e i h g q = absurd i
  assigns (t.Unary s o a) e i h g q = absurd i
  assigns (t.And s a b) e i h g q = absurd i
  assigns (t.Or s a b) e i h g q = absurd i
  assigns (t.Binary s o a b) e i h g q = absurd i

  int_of_place : (e : Term) → Suited f.types e face.Int → type_in e ≡ Some value.Int
  int_of_place e h = let g = suited f.types e face.Int h in g.is ∙ go g.own g.fits
    where
      go : (v : ValueType) → suits f.types (judged_type v) face.Int ≡ true → Some v ≡ Some value.Int
      go value.Int e = refl
      go value.Boolean e = absurd (let no : ⊥ = cc in no)
      go value.Null e = absurd (let no : ⊥ = cc in no)
      go (value.Named c) e = absurd (let no : ⊥ = cc in no)

  arithmetic : (at : ℕ) (o : Op) → binary_type o ≡ value.Int → used K (plainly at) (plain.Op o) ≡ Goes (IntType ∷ IntType ∷ []) (IntType ∷ [])
  arithmetic at op.Add e = refl
  arithmetic at op.Subtract e = refl
  arithmetic at op.Multiply e = refl
  arithmetic at op.Divide e = refl
  arithmetic at op.Remainder e = refl
  arithmetic at op.Less e = absurd (let no : ⊥ = cc in no)
  arithmetic at op.Greater e = absurd (let no : ⊥ = cc in no)
  arithmetic at op.AtMost e = absurd (let no : ⊥ = cc in no)
  arithmetic at op.AtLeast e = absurd (let no : ⊥ = cc in no)
  arithmetic at op.Equal e = absurd (let no : ⊥ = cc in no)
  arithmetic at op.NotEqual e = absurd (let no : ⊥ = cc in no)

  steps : (at : ℕ) (o : Op) (e : Term) → binary_type o ≡ value.Int → TermTyped f e → Suited f.types e face.Int → Steps K at o e IntType IntType
  steps at o e b h s = (IntType, IntType, IntType, itself T IntType, given_to e face.Int h s, arithmetic at o b, itself T IntType)

  changes : (to : Term) (o : Op) (e : Term) → IsTarget to → TermTyped f to → Suited f.types to face.Int → TermTyped f e → Suited f.types e face.Int
      → binary_type o ≡ value.Int → Changes K to o e
  changes (t.Local s x) o e i h is g q b =
      let own = local_is x s.ty value.Int h (int_of_place (t.Local s x) is) in
      (IntType, IntType, ap pushed own, steps s.at o e b g q, ap popped own)
  changes (t.Field s base named) o e i h is g q b = (
    ClassType (class_number r named.class),
    IntType,
    ClassType (class_number r named.class),
    IntType,
    ClassType (class_number r named.class),
    (named_type r named.class, gives base (value.Named named.class) h.0 h.1, base_suits named.class (field_declared named.class named.name h.2.field h.2.found)),
    keeps s.at named s.ty value.Int h.2 (int_of_place (t.Field s base named) is),
    steps s.at o e b g q,
    writes s.at named s.ty value.Int h.2 (int_of_place (t.Field s base named) is),
    itself T (ClassType (class_number r named.class)),
  )
  changes (t.Static s named) o e i h is g q b =
      let own = static_is named s.ty value.Int h (int_of_place (t.Static s named) is) in
      (IntType, IntType, ap pushed own, steps s.at o e b g q, ap popped own)
  changes (t.Const s l) o e i h is g q b = absurd i
  changes (t.This s) o e i h is g q b = absurd i
  changes (t.New s c es) o e i h is g q b = absurd i
  changes (t.Call s v m es) o e i h is g q b = absurd i
  changes (t.CallStatic s m es) o e i h is g q b = absurd i
  changes (t.Unknown s k es) o e i h is g q b = absurd i
  changes (t.UnknownField s v k) o e i h is g q b = absurd i
  changes (t.UnknownCall s v k es) o e i h is g q b = absurd i
  changes (t.Unary s u a) o e i h is g q b = absurd i
  changes (t.And s a c) o e i h is g q b = absurd i
  changes (t.Or s a c) o e i h is g q b = absurd i
  changes (t.Binary s u a c) o e i h is g q b = absurd i

  no_type : (o : Option ValueType) (b : Bool) → b ≡ is_some o → b ≡ false → o ≡ None
  no_type None b e g = refl
  no_type (Some v) b e g = absurd (let no : ⊥ = cc in no)

  runs : (e : Term) → TermTyped f e → has_value e ≡ false → Runs K e
  runs (t.Call s b m es) h none = (
    named_type r m.class,
    param_types r h.2.0.method.params,
    (named_type r m.class, gives b (value.Named m.class) h.0 h.1, itself T (named_type r m.class)),
    gives_all h.2.0.method.params es h.2.1,
    calls s.at m.class m.name (count es) h.2.0.method h.2.0.found h.2.0.kind
        ∙ ap (method_gives m.class h.2.0.method.params) (sym h.2.0.gives ∙ no_type s.ty m.has_result h.2.0.told none),
  )
  runs (t.CallStatic s m es) h none = (
    param_types r h.0.method.params,
    gives_all h.0.method.params es h.1,
    calls_static s.at m.class m.name (count es) h.0.method h.0.found h.0.kind
        ∙ ap (static_gives h.0.method.params) (sym h.0.gives ∙ no_type s.ty m.has_result h.0.told none),
  )
  runs (t.Const s l) h none = absurd (let no : ⊥ = cc in no)
  runs (t.This s) h none = absurd (let no : ⊥ = cc in no)
  runs (t.Local s x) h none = absurd (let no : ⊥ = cc in no)
  runs (t.Field s b named) h none = absurd (let no : ⊥ = cc in no)
  runs (t.Static s named) h none = absurd (let no : ⊥ = cc in no)
  runs (t.New s c es) h none = absurd (let no : ⊥ = cc in no)
  runs (t.Unknown s k es) h none = absurd h
  runs (t.UnknownField s b k) h none = absurd h
  runs (t.UnknownCall s b k es) h none = absurd h
  runs (t.Unary s o a) h none = absurd (let no : ⊥ = cc in no)
  runs (t.And s a b) h none = absurd (let no : ⊥ = cc in no)
  runs (t.Or s a b) h none = absurd (let no : ⊥ = cc in no)
  runs (t.Binary s o a b) h none = absurd (let no : ⊥ = cc in no)

  drops : (e : Term) → TermTyped f e → (o : Option ValueType) → type_in e ≡ o → is_some o ≡ true → Drops K e
  drops e h None is some = absurd (let no : ⊥ = cc in no)
  drops e h (Some v) is some = (AnyType, (value_type r v, gives e v h is, suits_any T (value_type r v)), refl)

  performs : (e : Term) → TermTyped f e → (b : Bool) → has_value e ≡ b → Chosen b (Drops K e) (Runs K e)
  performs e h true is = drops e h (type_in e) refl (typed-gives f e h is)
  performs e h false is = runs e h is

  starts : (e : Term) → TermTyped f e → (o : Option ValueType) → type_in e ≡ o → given_starts f.types o ≡ true → GivenTo K e RunnableType
  starts e h None is s = absurd (let no : ⊥ = cc in no)
  starts e h (Some v) is s = (value_type r v, gives e v h is, starting p T r f.types n v s)

  locked : (e : Term) → TermTyped f e → (o : Option ValueType) → type_in e ≡ o → given_locks o ≡ true → GivenTo K e ObjectType
  locked e h None is s = absurd (let no : ⊥ = cc in no)
  locked e h (Some v) is s = (value_type r v, gives e v h is, locks T r v s)

  class_there : (c : Name) → is_declared f.types c ≡ true → is_some (slice_get p.classes (class_number r c)) ≡ true
  class_there c d = let h = n.declared c d in ap (λ (o : Option ℕ). is_some (slice_get p.classes (or_zero o))) h.is ∙ h.there

  mutual
    pub fits : (varies : ℕ → Bool) (s : Statement) → StatementTyped f s → Fits K varies s
    fits varies (t.Block ss) h = fits_all varies ss h
    fits varies (t.Declare q x ty e) h = (value_type r ty, given_as e ty h.1 h.2, ap popped (local_is x (Some ty) ty h.0 refl))
    fits varies (t.Assign to e) h = assigns to e h.0 h.1 h.2 h.3
    fits varies (t.Compound to o e) h = changes to o e h.0 h.1 h.2 h.3 h.4 h.5
    fits varies (t.Perform e) h = performs e h (has_value e) refl
    fits varies (t.Start q e) h = (RunnableType, starts e h.0 (type_in e) refl h.1, refl)
    fits varies (t.If e a b) h = (given_to e face.Bool h.0 h.1, fits varies a h.2, fits varies b h.3)
    fits varies (t.While e a) h = (given_to e face.Bool h.0 h.1, fits varies a h.2)
    fits varies (t.Sync e a) h = (locked e h.0 (type_in e) refl h.1, fits varies a h.2)
    fits varies (t.SyncClass q c a) h = (class_there c h.0, fits varies a h.1)
    fits varies (t.Return q) h = refl
    fits varies (t.ReturnValue q e) h = (value_type r h.0, given_as e h.0 h.2 h.3, ap returned (result ∙ ap (result_type r) h.1))

    pub fits_all : (varies : ℕ → Bool) (ss : Statements) → StatementsTyped f ss → FitsAll K varies ss
    fits_all varies t.no_statements h = tt
    fits_all varies (t.statement s ss) h = (fits varies s h.0, fits_all varies ss h.1)
