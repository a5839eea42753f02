-- An expression names no local but `this` and those in scope: another one is live before it exactly where it is live behind it.
use Rattle.std.proofs.Common.{◌≡◌, ℕ, suc, ◌==◌, refl, ap, ◌∙◌, Bool, true, false, ◌||◌, if◌then◌else◌, List, [], ◌∷◌, drop, Option, Some, None, bytes_eq}
use Rattle.std.specs.Prelude.{codes}
use Rattle.class_faces.specs.declared.face.FaceTy.TheVariants as face
use Rattle.class_faces.specs.declared.face.FieldFace.{FieldFace}
use Rattle.class_faces.specs.declared.face.ParamFace.{ParamFace}
use Rattle.result_records.specs.declared.code.FindingCode.{FindingCode}
use Rattle.result_records.specs.declared.code.FindingCode.TheVariants as code
use Rattle.java_tree.specs.declared.expr.BinaryOp.{BinaryOp}
use Rattle.java_tree.specs.declared.expr.BinaryOp.TheVariants as operator
use Rattle.tree_places.specs.PlainExpr.{PlainLexeme, PlainExpr, PlainExprs}
use Rattle.tree_places.specs.PlainExpr as e
use Rattle.bound_tree.specs.declared.tree.Stamp.{Stamp}
use Rattle.bound_tree.specs.Tree.{Term, Terms, no_terms, stamp_of}
use Rattle.bound_tree.specs.Tree as t
use Rattle.bound_tree.specs.Reading.{terms}
use Rattle.bound_tree.specs.Flows.{Flow, End, in_term, in_terms}
use Rattle.bound_tree.specs.Live.{live}
use Rattle.name_rules.specs.declared.note.Note.TheVariants.{Finding, Names}
use Rattle.name_rules.specs.declared.scope.Entry.{Entry}
use Rattle.name_rules.specs.declared.scope.Variable.{Variable}
use Rattle.name_rules.specs.Types.{Name, Types, is_known_name}
use Rattle.name_rules.specs.Scopes.{Scope, Meaning, IsVariable, IsField, IsHidden, IsFree, entry_of, meaning_by, variable_meaning}
use Rattle.name_rules.specs.Places.{Place, AnyValue, Of}
use Rattle.name_rules.specs.Types.{field_of}
use Rattle.expression_binding.specs.Stamps.{restamped, stamp_from, spoilt_stamp, faulty}
use Rattle.expression_binding.specs.Before.{Before, OnType, OnValue, class_before}
use Rattle.expression_binding.specs.Fields.{NamedField, field_name}
use Rattle.expression_binding.specs.Methods.{NamedMethod, method_in, method_named, method_params, made_by, maker_params, is_made}
use Rattle.expression_binding.specs.Bound.{Ground, Bound, Based, unknown, this_of, meant, meaning_of, fit, fit_term, spoilt_if, found_at, is_paren, before, before_by, type_word, field_made, own_call_made, call_made, object_term, no_object_term, left_place, right_place, term_on_two, argument_place, count, raw, raw_all, fitted}
use Rattle.binding_types.specs.Named.{Misses, MissesNone, MissesEntry, NotNamed}
use Rattle.binding_types.proofs.Lookups.{find-all}

abbrev pub Keeps : ℕ → Term → Type 0
Keeps x v = (K : Flow) (k : Bool) → live x (in_term v K) k ≡ live x K k

abbrev pub KeepsAll : ℕ → Terms → Type 0
KeepsAll x es = (K : Flow) (k : Bool) → live x (in_terms es K) k ≡ live x K k

unlike : (x y : ℕ) (j : Bool) → (x == y) ≡ false → (if x == y then true else j) ≡ j
unlike x y j e = ap (λ (b : Bool). if b then true else j) e

twice : (b : Bool) → (b || b) ≡ b
twice true = refl
twice false = refl

or-second : (a b : Bool) → (a || b) ≡ false → b ≡ false
or-second true b e = absurd (let h : ⊥ = cc in h)
or-second false b e = e

-- ---- stamps

restamped-flow : (x : ℕ) (change : Stamp → Stamp) (v : Term) (K : Flow) (k : Bool) → live x (in_term (restamped change v) K) k ≡ live x (in_term v K) k
restamped-flow x change (t.Const s l) K k = refl
restamped-flow x change (t.This s) K k = refl
restamped-flow x change (t.Local s y) K k = refl
restamped-flow x change (t.Field s b named) K k = refl
restamped-flow x change (t.Static s named) K k = refl
restamped-flow x change (t.New s c es) K k = refl
restamped-flow x change (t.Call s r m es) K k = refl
restamped-flow x change (t.CallStatic s m es) K k = refl
restamped-flow x change (t.Unknown s n es) K k = refl
restamped-flow x change (t.UnknownField s b n) K k = refl
restamped-flow x change (t.UnknownCall s r n es) K k = refl
restamped-flow x change (t.Unary s o a) K k = refl
restamped-flow x change (t.And s a b) K k = refl
restamped-flow x change (t.Or s a b) K k = refl
restamped-flow x change (t.Binary s o a b) K k = refl

pub restamped_keeps : (x : ℕ) (change : Stamp → Stamp) (v : Term) → Keeps x v → Keeps x (restamped change v)
restamped_keeps x change v h K k = restamped-flow x change v K k ∙ h K k

spoilt-keeps : (x : ℕ) (o : Option FindingCode) (in_paren : Bool) (v : Term) → Keeps x v → Keeps x (spoilt_if o in_paren v)
spoilt-keeps x None in_paren v h = h
spoilt-keeps x (Some c) in_paren v h = restamped_keeps x (spoilt_stamp in_paren) v h

pub fit_keeps : (x : ℕ) (types : Types) (p : Place) (in_paren : Bool) (v : Term) → Keeps x v → Keeps x (fit_term types p in_paren v)
fit_keeps x types p in_paren v h = spoilt-keeps x (found_at types p v) in_paren v h

-- ---- names

this-keeps : (x : ℕ) (c : Name) (at : ℕ) → (x == 0) ≡ false → Keeps x (this_of c at)
this-keeps x c at e K k = unlike x 0 (live x K k) e

this-by : (x : ℕ) (c : Name) (at : ℕ) (b : Bool) → (b ≡ false → (x == 0) ≡ false) → Keeps x (if b then unknown code.StaticUse at (codes "this") else record { term = this_of c at; notes = [] }).term
this-by x c at true h K k = refl
this-by x c at false h K k = this-keeps x c at (h refl) K k

own-keeps : (x : ℕ) (c : Name) (at : ℕ) (f : FieldFace) (s : Stamp) (a b : Bool) → (b ≡ false → (x == 0) ≡ false)
    → Keeps x (if a then t.Static s (field_name c f) else (if b then t.Unknown s f.name no_terms else t.Field s (this_of c at) (field_name c f)))
own-keeps x c at f s true b h K k = refl
own-keeps x c at f s false true h K k = refl
own-keeps x c at f s false false h K k = this-keeps x c at (h refl) K k

abbrev MeaningMisses : ℕ → Meaning → Type 0
MeaningMisses x (IsVariable v) = (x == v.number) ≡ false
MeaningMisses x (IsField f) = Unit {0}
MeaningMisses x IsHidden = Unit {0}
MeaningMisses x IsFree = Unit {0}

variable-misses : (x : ℕ) (v : Option Variable) → MissesNone x v → MeaningMisses x (variable_meaning v)
variable-misses x None h = tt
variable-misses x (Some v) h = h

meaning-misses : (x : ℕ) (scope : Scope) (name : Name) → Misses x scope → (o : Option Entry) → entry_of scope name ≡ o → (f : Option FieldFace) → MeaningMisses x (meaning_by o f)
meaning-misses x scope name h None e None = tt
meaning-misses x scope name h None e (Some f) = tt
meaning-misses x scope name h (Some i) e f = variable-misses x i.variable (find-all (MissesEntry x) (λ (i : Entry). bytes_eq i.name name) scope i h e)

meant-keeps : (g : Ground) (x at : ℕ) (name : Name) → (g.is_static ≡ false → (x == 0) ≡ false) → (m : Meaning) → MeaningMisses x m → Keeps x (meant g at name m).term
meant-keeps g x at name this (IsVariable v) h K k = unlike x v.number (live x K k) h
meant-keeps g x at name this (IsField f) h K k = own-keeps x g.class at f _ f.is_static g.is_static this K k
meant-keeps g x at name this IsHidden h K k = refl
meant-keeps g x at name this IsFree h K k = refl

-- ---- before a dot

abbrev BaseKeeps : ℕ → Before → Type 0
BaseKeeps x (OnType c at) = Unit {0}
BaseKeeps x (OnValue v) = Keeps x v

abbrev based_if : Bool → ℕ → Name → Based
based_if b at name =
    if b then record { base = OnType name at; notes = Names name ∷ [] }
    else record { base = OnValue (t.Unknown (faulty at at) name no_terms); notes = Names name ∷ Finding code.UnboundName at ∷ [] }

type-keeps : (x at : ℕ) (name : Name) (b : Bool) → BaseKeeps x (based_if b at name).base
type-keeps x at name true = tt
type-keeps x at name false = λ (K : Flow) (k : Bool). refl

base-keeps : (x : ℕ) (types : Types) (w : Option PlainLexeme) (in_paren : Bool) (b : Bound) → Keeps x b.term → BaseKeeps x (before_by types w (fit types AnyValue in_paren b)).base
base-keeps x types (Some w) in_paren b h = type-keeps x (suc w.at) w.text (is_known_name types w.text)
base-keeps x types None in_paren b h = fit_keeps x types AnyValue in_paren b.term h

type-field : (x : ℕ) (name : Name) (f : NamedField) (s : Stamp) (b : Bool) → Keeps x (if b then t.Static s f.named else t.Unknown s name no_terms)
type-field x name f s true K k = refl
type-field x name f s false K k = refl

value-field : (x : ℕ) (v : Term) (name : Name) (f : NamedField) (s : Stamp) (b : Bool) → Keeps x v → Keeps x (if b then t.UnknownField s v name else t.Field s v f.named)
value-field x v name f s true h K k = h K k
value-field x v name f s false h K k = h K k

field-keeps : (x : ℕ) (types : Types) (b : Before) → BaseKeeps x b → (at : ℕ) (name : Name) (o : Option NamedField) → Keeps x (field_made types b at name o)
field-keeps x types (OnType c here) h at name None K k = refl
field-keeps x types (OnValue v) h at name None K k = h K k
field-keeps x types (OnType c here) h at name (Some f) K k = type-field x name f _ f.is_static K k
field-keeps x types (OnValue v) h at name (Some f) K k = value-field x v name f _ f.is_static h K k

-- ---- calls

on-this : (x : ℕ) (c : Name) (at : ℕ) (m : NamedMethod) (args : List Term) (s : Stamp) (b : Bool) → (b ≡ false → (x == 0) ≡ false) → KeepsAll x (terms args)
    → Keeps x (if b then t.CallStatic s m.named (terms args) else t.Call s (this_of c at) m.named (terms args))
on-this x c at m args s true h all K k = all K k
on-this x c at m args s false h all K k = this-keeps x c at (h refl) (in_terms (terms args) K) k ∙ all K k

own-call : (g : Ground) (x at : ℕ) (name : Name) → (g.is_static ≡ false → (x == 0) ≡ false) → (o : Option NamedMethod) (args : List Term) → KeepsAll x (terms args) → Keeps x (own_call_made g at name o args)
own-call g x at name this None args all K k = all K k
own-call g x at name this (Some m) args all K k = on-this x g.class at m args _ (m.is_static || g.is_static) (λ e. this (or-second m.is_static g.is_static e)) all K k

call-keeps : (x : ℕ) (types : Types) (b : Before) → BaseKeeps x b → (at : ℕ) (name : Name) (o : Option NamedMethod) (args : List Term) → KeepsAll x (terms args) → Keeps x (call_made types b at name o args)
call-keeps x types (OnType c here) h at name None args all K k = all K k
call-keeps x types (OnValue v) h at name None args all K k = h (in_terms (terms args) K) k ∙ all K k
call-keeps x types (OnType c here) h at name (Some m) args all K k = all K k
call-keeps x types (OnValue v) h at name (Some m) args all K k = h (in_terms (terms args) K) k ∙ all K k

new-keeps : (x at : ℕ) (c : Name) (args : List Term) (a b : Bool) → KeepsAll x (terms args) → Keeps x (if a then (if b then object_term at c args else no_object_term at c args) else no_object_term at c args)
new-keeps x at c args true true all K k = all K k
new-keeps x at c args true false all K k = all K k
new-keeps x at c args false b all K k = all K k

-- ---- operators

two-keeps : (x : ℕ) (op : BinaryOp) (s : Stamp) (a b : Term) → Keeps x a → Keeps x b → Keeps x (term_on_two op s a b)
two-keeps x operator.Or s a b h i K k = h _ k ∙ ap (λ (j : Bool). live x K k || j) (i End (live x K k)) ∙ twice (live x K k)
two-keeps x operator.And s a b h i K k = h _ k ∙ ap (λ (j : Bool). j || live x K k) (i End (live x K k)) ∙ twice (live x K k)
two-keeps x operator.Equal s a b h i K k = h (in_term b K) k ∙ i K k
two-keeps x operator.NotEqual s a b h i K k = h (in_term b K) k ∙ i K k
two-keeps x operator.Less s a b h i K k = h (in_term b K) k ∙ i K k
two-keeps x operator.Greater s a b h i K k = h (in_term b K) k ∙ i K k
two-keeps x operator.AtMost s a b h i K k = h (in_term b K) k ∙ i K k
two-keeps x operator.AtLeast s a b h i K k = h (in_term b K) k ∙ i K k
two-keeps x operator.Add s a b h i K k = h (in_term b K) k ∙ i K k
two-keeps x operator.Subtract s a b h i K k = h (in_term b K) k ∙ i K k
two-keeps x operator.Multiply s a b h i K k = h (in_term b K) k ∙ i K k
two-keeps x operator.Divide s a b h i K k = h (in_term b K) k ∙ i K k
two-keeps x operator.Remainder s a b h i K k = h (in_term b K) k ∙ i K k

-- ---- expressions

mutual
  unfolding raw raw_all

  pub raw-keeps : (g : Ground) (scope : Scope) (x : ℕ) → NotNamed g scope x → (i : PlainExpr) → Keeps x (raw g scope i).term
  raw-keeps g scope x n (e.Int w) K k = refl
  raw-keeps g scope x n (e.Str w) K k = refl
  raw-keeps g scope x n (e.True at) K k = refl
  raw-keeps g scope x n (e.False at) K k = refl
  raw-keeps g scope x n (e.Null at) K k = refl
  raw-keeps g scope x n (e.This at) K k = this-by x g.class (suc at) g.is_static n.this K k
  raw-keeps g scope x n (e.Name w) K k =
      meant-keeps g x (suc w.at) w.text n.this (meaning_of g scope w.text)
      (meaning-misses x scope w.text n.names (entry_of scope w.text) refl (field_of g.types g.class w.text)) K k
  raw-keeps g scope x n (e.Call w args closing) K k =
      let m = method_in g.types g.class w.text (count args) in own-call g x (suc w.at) w.text n.this m (raw_all g scope (method_params m) args).terms (all-keeps g scope x n (method_params m) args) K k
  raw-keeps g scope x n (e.New at w args closing) K k =
      let m = made_by g.types w.text (count args) in
      new-keeps x (suc at) w.text (raw_all g scope (maker_params m) args).terms (is_known_name g.types w.text) (is_made g.types w.text (count args)) (all-keeps g scope x n (maker_params m) args) K k
  raw-keeps g scope x n (e.Paren opening inside closing) K k = restamped_keeps x (stamp_from (suc opening)) (raw g scope inside).term (raw-keeps g scope x n inside) K k
  raw-keeps g scope x n (e.Select from w) K k =
      field-keeps x g.types (before g scope from (raw g scope from)).base (base-keeps x g.types (type_word g scope from) (is_paren from) (raw g scope from) (raw-keeps g scope x n from)) (suc w.at) w.text _ K k
  raw-keeps g scope x n (e.CallOn from w args closing) K k =
      let b = before g scope from (raw g scope from) in
      let m = method_named g.types (class_before b.base) w.text (count args) in
      call-keeps x g.types b.base (base-keeps x g.types (type_word g scope from) (is_paren from) (raw g scope from) (raw-keeps g scope x n from)) (suc w.at) w.text m
      (raw_all g scope (method_params m) args).terms (all-keeps g scope x n (method_params m) args) K k
  raw-keeps g scope x n (e.Not at operand) K k = fit_keeps x g.types (Of face.Bool) (is_paren operand) (raw g scope operand).term (raw-keeps g scope x n operand) K k
  raw-keeps g scope x n (e.Neg at operand) K k = fit_keeps x g.types (Of face.Int) (is_paren operand) (raw g scope operand).term (raw-keeps g scope x n operand) K k
  raw-keeps g scope x n (e.Binary l op at r) K k =
      let a = fit g.types (left_place op) (is_paren l) (raw g scope l) in
      two-keeps x op _ a.term (fit_term g.types (right_place op (stamp_of a.term).ty) (is_paren r) (raw g scope r).term)
      (fit_keeps x g.types (left_place op) (is_paren l) (raw g scope l).term (raw-keeps g scope x n l))
      (fit_keeps x g.types (right_place op (stamp_of a.term).ty) (is_paren r) (raw g scope r).term (raw-keeps g scope x n r)) K k

  all-keeps : (g : Ground) (scope : Scope) (x : ℕ) → NotNamed g scope x → (params : List ParamFace) (is : PlainExprs) → KeepsAll x (terms (raw_all g scope params is).terms)
  all-keeps g scope x n params e.no_exprs K k = refl
  all-keeps g scope x n params (e.expr a others) K k =
      fit_keeps x g.types (argument_place params) (is_paren a) (raw g scope a).term (raw-keeps g scope x n a) (in_terms (terms (raw_all g scope (drop 1 params) others).terms) K) k
      ∙ all-keeps g scope x n (drop 1 params) others K k

pub fitted_keeps : (g : Ground) (scope : Scope) (x : ℕ) → NotNamed g scope x → (p : Place) (i : PlainExpr) → Keeps x (fitted g scope p i).term
fitted_keeps g scope x n p i = fit_keeps x g.types p (is_paren i) (raw g scope i).term (raw-keeps g scope x n i)
