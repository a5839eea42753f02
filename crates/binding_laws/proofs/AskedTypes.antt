-- The type of a bound expression is one that its answer rests on.
use Rattle.std.proofs.Common.{◌≡◌, refl, ℕ, suc, Bool, true, false, ◌||◌, if◌then◌else◌, List, [], ◌∷◌, ◌++◌, inl, inr, Option, Some, None, sym, subst}
use Rattle.class_faces.specs.declared.face.FaceTy.{FaceTy}
use Rattle.class_faces.specs.declared.face.FaceTy.TheVariants as face
use Rattle.class_faces.specs.declared.face.FieldFace.{FieldFace}
use Rattle.class_faces.specs.declared.face.MemberFace.{MemberFace}
use Rattle.java_tree.specs.declared.expr.BinaryOp.{BinaryOp}
use Rattle.java_tree.specs.declared.expr.BinaryOp.TheVariants as operator
use Rattle.result_records.specs.declared.code.FindingCode.{FindingCode}
use Rattle.bound_tree.specs.declared.name.ValueType.{ValueType}
use Rattle.bound_tree.specs.declared.name.ValueType.TheVariants as value
use Rattle.bound_tree.specs.declared.tree.Stamp.{Stamp}
use Rattle.bound_tree.specs.declared.tree.UnaryOp.{UnaryOp}
use Rattle.bound_tree.specs.declared.tree.UnaryOp.TheVariants as unary
use Rattle.bound_tree.specs.Tree.{Term, no_terms, stamp_of, is_bad}
use Rattle.bound_tree.specs.Tree as t
use Rattle.tree_places.specs.PlainExpr.{PlainLexeme, PlainExpr, PlainExprs}
use Rattle.tree_places.specs.PlainExpr as e
use Rattle.name_rules.specs.declared.note.Note.{Note}
use Rattle.name_rules.specs.declared.note.Note.TheVariants.{Calls}
use Rattle.name_rules.specs.declared.uses.Use.{Use}
use Rattle.name_rules.specs.declared.uses.Use.TheVariants as usage
use Rattle.name_rules.specs.Types.{Name, Types, is_known_name}
use Rattle.name_rules.specs.Notes.{consults, consults_result, consults_params}
use Rattle.name_rules.specs.Scopes.{Scope, Meaning, IsVariable, IsField, IsHidden, IsFree}
use Rattle.name_rules.specs.Places.{Place, AnyValue, Of, use_of, use_notes}
use Rattle.expression_binding.specs.Stamps.{used, unless_bad, restamped, stamp_from, spoilt_stamp}
use Rattle.expression_binding.specs.Fields.{NamedField, field_named}
use Rattle.expression_binding.specs.Methods.{NamedMethod, method_in, method_named, method_params, method_notes, made_by, is_made, maker_params}
use Rattle.expression_binding.specs.Before.{Before, OnType, OnValue, class_of, class_before}
use Rattle.expression_binding.specs.Bound.{grounded, Bound, Bounds, found_at, finding_if, spoilt_if, fit, is_paren, any_bad, this_at, own_field_by, is_out_of_place, meant, meaning_of, Based, type_word, before_by, before, field_use, field_made, field_told, selected, count, own_called, own_call_notes, own_use, called_on, call_made, call_notes, use_behind, newly_made, operand_type, is_either_bad, left_place, right_place, fit_term, with_two, term_on_two, type_on_two, joined, raw, raw_all}
use Rattle.expression_binding.specs.Laws.{IsAsked, IsAskedType, TypesAreAsked}
use Rattle.binding_laws.proofs.Told.{type-front, type-back}

either-asked : (class : Name) (notes : List Note) (b : Bool) (x y : Term) → IsAskedType class notes (stamp_of x).ty → IsAskedType class notes (stamp_of y).ty
    → IsAskedType class notes (stamp_of (if b then x else y)).ty
either-asked class notes true x y p q = p
either-asked class notes false x y p q = q

-- ---- stamps

used-asked : (class : Name) (at first : ℕ) (ty : FaceTy) (u : Use) → IsAskedType class (consults ty) (used at first (Some ty) u).ty
used-asked class at first ty usage.Unjudged = tt
used-asked class at first ty usage.Misused = tt
used-asked class at first face.Int usage.Used = tt
used-asked class at first face.Bool usage.Used = tt
used-asked class at first face.Args usage.Used = tt
used-asked class at first (face.Named c) usage.Used = inr (inr (inl refl))

given-asked : (class : Name) (at first : ℕ) (given : Option FaceTy) (u : Use) → IsAskedType class (consults_result given) (used at first given u).ty
given-asked class at first None usage.Unjudged = tt
given-asked class at first None usage.Misused = tt
given-asked class at first None usage.Used = tt
given-asked class at first (Some ty) u = used-asked class at first ty u

unless-asked : (class : Name) (notes : List Note) (bad : Bool) (at first : ℕ) (ty : ValueType) → IsAskedType class notes (Some ty) → IsAskedType class notes (unless_bad bad at first ty).ty
unless-asked class notes true at first ty h = tt
unless-asked class notes false at first ty h = h

restamped-stamp : (change : Stamp → Stamp) (v : Term) → stamp_of (restamped change v) ≡ change (stamp_of v)
restamped-stamp change (t.Const s l) = refl
restamped-stamp change (t.This s) = refl
restamped-stamp change (t.Local s x) = refl
restamped-stamp change (t.Field s b f) = refl
restamped-stamp change (t.Static s f) = refl
restamped-stamp change (t.New s c es) = refl
restamped-stamp change (t.Call s r m es) = refl
restamped-stamp change (t.CallStatic s m es) = refl
restamped-stamp change (t.Unknown s n es) = refl
restamped-stamp change (t.UnknownField s b n) = refl
restamped-stamp change (t.UnknownCall s r n es) = refl
restamped-stamp change (t.Unary s o a) = refl
restamped-stamp change (t.And s a b) = refl
restamped-stamp change (t.Or s a b) = refl
restamped-stamp change (t.Binary s o a b) = refl

spoilt-untyped : (in_paren : Bool) (s : Stamp) → (spoilt_stamp in_paren s).ty ≡ None
spoilt-untyped true s = refl
spoilt-untyped false s = refl

spoilt-asked : (class : Name) (notes : List Note) (in_paren : Bool) (v : Term) → IsAskedType class notes (stamp_of (restamped (spoilt_stamp in_paren) v)).ty
spoilt-asked class notes in_paren v =
    subst (λ (s : Stamp). IsAskedType class notes s.ty) (sym (restamped-stamp (spoilt_stamp in_paren) v))
    (subst (λ (ty : Option ValueType). IsAskedType class notes ty) (sym (spoilt-untyped in_paren (stamp_of v))) tt)

-- ---- places

found-asked : (class : Name) (found : Option FindingCode) (in_paren : Bool) (b : Bound) → IsAskedType class b.notes (stamp_of b.term).ty
    → IsAskedType class (b.notes ++ finding_if found b.term) (stamp_of (spoilt_if found in_paren b.term)).ty
found-asked class None in_paren b h = type-front class b.notes [] (stamp_of b.term).ty h
found-asked class (Some c) in_paren b h = spoilt-asked class (b.notes ++ finding_if (Some c) b.term) in_paren b.term

pub fit-asked : (types : Types) (class : Name) (p : Place) (in_paren : Bool) (b : Bound) → IsAskedType class b.notes (stamp_of b.term).ty
    → IsAskedType class (fit types p in_paren b).notes (stamp_of (fit types p in_paren b).term).ty
fit-asked types class p in_paren b h = found-asked class (found_at types p b.term) in_paren b h

-- ---- names

this-asked : (types : Types) (class : Name) (in_static : Bool) (at : ℕ) → IsAskedType class (this_at (grounded types class in_static) at).notes (stamp_of (this_at (grounded types class in_static) at).term).ty
this-asked types class true at = tt
this-asked types class false at = inl refl

own_field-asked : (types : Types) (class : Name) (in_static : Bool) (at : ℕ) (f : FieldFace) (u : Use)
    → IsAskedType class (own_field_by (grounded types class in_static) at f u).notes (stamp_of (own_field_by (grounded types class in_static) at f u).term).ty
own_field-asked types class in_static at f u =
    let told : IsAskedType class (consults f.ty ++ use_notes at u) (used at at (Some f.ty) u).ty =
    type-front class (consults f.ty) (use_notes at u) (used at at (Some f.ty) u).ty (used-asked class at at f.ty u) in
    either-asked class (consults f.ty ++ use_notes at u) f.is_static _ _ told (either-asked class (consults f.ty ++ use_notes at u) in_static _ _ told told)

meant-asked : (types : Types) (class : Name) (in_static : Bool) (at : ℕ) (name : Name) (m : Meaning)
    → IsAskedType class (meant (grounded types class in_static) at name m).notes (stamp_of (meant (grounded types class in_static) at name m).term).ty
meant-asked types class in_static at name (IsVariable v) = used-asked class at at v.ty (use_of types false (Some v.ty))
meant-asked types class in_static at name (IsField f) = own_field-asked types class in_static at f (use_of types (is_out_of_place in_static f.is_static) (Some f.ty))
meant-asked types class in_static at name IsHidden = tt
meant-asked types class in_static at name IsFree = tt

-- ---- before a dot

abbrev pub IsAskedName : Name → List Note → Option Name → Type 0
IsAskedName class notes None = Unit {0}
IsAskedName class notes (Some c) = IsAsked class notes c

class-asked : (class : Name) (notes : List Note) (bad : Bool) (ty : Option ValueType) → IsAskedType class notes ty → IsAskedName class notes (if bad then None else class_of ty)
class-asked class notes true ty h = tt
class-asked class notes false None h = tt
class-asked class notes false (Some value.Int) h = tt
class-asked class notes false (Some value.Boolean) h = tt
class-asked class notes false (Some value.Null) h = tt
class-asked class notes false (Some (value.Named c)) h = h

either-based : (class : Name) (known : Bool) (x y : Based) → IsAskedName class x.notes (class_before x.base) → IsAskedName class y.notes (class_before y.base)
    → IsAskedName class (if known then x else y).notes (class_before (if known then x else y).base)
either-based class true x y p q = p
either-based class false x y p q = q

by-asked : (types : Types) (class : Name) (w : Option PlainLexeme) (b : Bound) → IsAskedType class b.notes (stamp_of b.term).ty
    → IsAskedName class (before_by types w b).notes (class_before (before_by types w b).base)
by-asked types class None b h = class-asked class b.notes (is_bad b.term) (stamp_of b.term).ty h
by-asked types class (Some w) b h = either-based class (is_known_name types w.text) _ _ (inr (inr (inl refl))) tt

-- ---- members behind a dot

field-asked : (class : Name) (at first : ℕ) (ty : FaceTy) (u : Use) → IsAskedType class (consults ty ++ use_notes at u) (used at first (Some ty) u).ty
field-asked class at first ty u = type-front class (consults ty) (use_notes at u) (used at first (Some ty) u).ty (used-asked class at first ty u)

select_made-asked : (types : Types) (class : Name) (b : Before) (at : ℕ) (name : Name) (found : Option NamedField)
    → IsAskedType class (field_told types b at found) (stamp_of (field_made types b at name found)).ty
select_made-asked types class (OnType c first) at name None = tt
select_made-asked types class (OnValue v) at name None = tt
select_made-asked types class (OnType c first) at name (Some f) =
    let u = field_use types (OnType c first) f in
    let told = field-asked class at first f.ty u in either-asked class (consults f.ty ++ use_notes at u) f.is_static _ _ told told
select_made-asked types class (OnValue v) at name (Some f) =
    let u = field_use types (OnValue v) f in
    let told = field-asked class at (stamp_of v).first f.ty u in either-asked class (consults f.ty ++ use_notes at u) f.is_static _ _ told told

selected-asked : (types : Types) (class : Name) (b : Based) (w : PlainLexeme) → IsAskedType class (selected types b w).notes (stamp_of (selected types b w).term).ty
selected-asked types class b w =
    type-back class b.notes _ (stamp_of (selected types b w).term).ty
    (select_made-asked types class b.base (suc w.at) w.text (field_named types (class_before b.base) w.text))

-- ---- calls

method-asked : (class : Name) (n : ℕ) (m : NamedMethod) (rest : List Note) (at first : ℕ) (u : Use) → IsAskedType class (method_notes n (Some m) ++ rest) (used at first m.result u).ty
method-asked class n m rest at first u =
    let ty = (used at first m.result u).ty in
    type-front class (method_notes n (Some m)) rest ty
    (type-back class (Calls m.named.class m.named.name n ∷ []) (consults_result m.result ++ consults_params m.params) ty
    (type-front class (consults_result m.result) (consults_params m.params) ty (given-asked class at first m.result u)))

own_called-asked : (types : Types) (class : Name) (in_static : Bool) (w : PlainLexeme) (n : ℕ) (m : Option NamedMethod) (args : Bounds)
    → IsAskedType class (own_called (grounded types class in_static) w n m args).notes (stamp_of (own_called (grounded types class in_static) w n m args).term).ty
own_called-asked types class in_static w n None args = tt
own_called-asked types class in_static w n (Some m) args =
    let g = grounded types class in_static in
    let told = method-asked class n m (args.notes ++ own_call_notes g (suc w.at) (Some m) args.terms) (suc w.at) (suc w.at) (own_use g m args.terms) in
    either-asked class (own_called g w n (Some m) args).notes (m.is_static || in_static) _ _ told told

made-asked : (types : Types) (class : Name) (b : Before) (w : PlainLexeme) (n : ℕ) (m : Option NamedMethod) (args : List Term) (rest : List Note)
    → IsAskedType class (method_notes n m ++ rest) (stamp_of (call_made types b (suc w.at) w.text m args)).ty
made-asked types class (OnType c first) w n None args rest = tt
made-asked types class (OnValue v) w n None args rest = tt
made-asked types class (OnType c first) w n (Some m) args rest = method-asked class n m rest (suc w.at) first (use_behind types (OnType c first) m args)
made-asked types class (OnValue v) w n (Some m) args rest = method-asked class n m rest (suc w.at) (stamp_of v).first (use_behind types (OnValue v) m args)

called_on-asked : (types : Types) (class : Name) (b : Based) (w : PlainLexeme) (n : ℕ) (m : Option NamedMethod) (args : Bounds)
    → IsAskedType class (called_on types b w n m args).notes (stamp_of (called_on types b w n m args).term).ty
called_on-asked types class b w n m args =
    type-back class b.notes _ (stamp_of (called_on types b w n m args).term).ty
    (made-asked types class b.base w n m args.terms (args.notes ++ call_notes types b.base (suc w.at) m args.terms))

newly_made-asked : (types : Types) (class : Name) (at : ℕ) (w : PlainLexeme) (n : ℕ) (m : Option MemberFace) (args : Bounds)
    → IsAskedType class (newly_made types at w n m args).notes (stamp_of (newly_made types at w n m args).term).ty
newly_made-asked types class at w n m args =
    let notes = (newly_made types at w n m args).notes in
    either-asked class notes (is_known_name types w.text) _ _
    (either-asked class notes (is_made types w.text n) _ _ (unless-asked class notes (any_bad args.terms) at at (value.Named w.text) (inr (inr (inl refl)))) tt)
    tt

-- ---- operators

operand-asked : (class : Name) (notes : List Note) (op : UnaryOp) → IsAskedType class notes (Some (operand_type op))
operand-asked class notes unary.Not = tt
operand-asked class notes unary.Negate = tt

on_two-asked : (class : Name) (notes : List Note) (op : BinaryOp) → IsAskedType class notes (Some (type_on_two op))
on_two-asked class notes operator.Add = tt
on_two-asked class notes operator.Subtract = tt
on_two-asked class notes operator.Multiply = tt
on_two-asked class notes operator.Divide = tt
on_two-asked class notes operator.Remainder = tt
on_two-asked class notes _ = tt

on_two-stamp : (op : BinaryOp) (s : Stamp) (a b : Term) → stamp_of (term_on_two op s a b) ≡ s
on_two-stamp operator.Or s a b = refl
on_two-stamp operator.And s a b = refl
on_two-stamp operator.Equal s a b = refl
on_two-stamp operator.NotEqual s a b = refl
on_two-stamp operator.Less s a b = refl
on_two-stamp operator.Greater s a b = refl
on_two-stamp operator.AtMost s a b = refl
on_two-stamp operator.AtLeast s a b = refl
on_two-stamp operator.Add s a b = refl
on_two-stamp operator.Subtract s a b = refl
on_two-stamp operator.Multiply s a b = refl
on_two-stamp operator.Divide s a b = refl
on_two-stamp operator.Remainder s a b = refl

joined-asked : (class : Name) (notes : List Note) (op : BinaryOp) (at : ℕ) (a b : Term) → IsAskedType class notes (stamp_of (joined op at a b)).ty
joined-asked class notes op at a b =
    let s = unless_bad (is_either_bad a b) at (stamp_of a).first (type_on_two op) in
    subst (λ (y : Stamp). IsAskedType class notes y.ty) (sym (on_two-stamp op s a b))
    (unless-asked class notes (is_either_bad a b) at (stamp_of a).first (type_on_two op) (on_two-asked class notes op))

-- ---- expressions

pub raw-asked : (types : Types) (class : Name) (in_static : Bool) (scope : Scope) (x : PlainExpr)
    → IsAskedType class (raw (grounded types class in_static) scope x).notes (stamp_of (raw (grounded types class in_static) scope x).term).ty
unfolding raw
raw-asked types class in_static scope (e.Int w) = tt
raw-asked types class in_static scope (e.Str w) = inr (inl refl)
raw-asked types class in_static scope (e.True at) = tt
raw-asked types class in_static scope (e.False at) = tt
raw-asked types class in_static scope (e.Null at) = tt
raw-asked types class in_static scope (e.This at) = this-asked types class in_static (suc at)
raw-asked types class in_static scope (e.Name w) =
    meant-asked types class in_static (suc w.at) w.text (meaning_of (grounded types class in_static) scope w.text)
raw-asked types class in_static scope (e.Call w args closing) =
    let g = grounded types class in_static in let m = method_in types class w.text (count args) in
    own_called-asked types class in_static w (count args) m (raw_all g scope (method_params m) args)
raw-asked types class in_static scope (e.New at w args closing) =
    let g = grounded types class in_static in let m = made_by types w.text (count args) in
    newly_made-asked types class (suc at) w (count args) m (raw_all g scope (maker_params m) args)
raw-asked types class in_static scope (e.Paren opening inside closing) =
    let b = raw (grounded types class in_static) scope inside in
    subst (λ (s : Stamp). IsAskedType class b.notes s.ty) (sym (restamped-stamp (stamp_from (suc opening)) b.term)) (raw-asked types class in_static scope inside)
raw-asked types class in_static scope (e.Select from w) =
    let g = grounded types class in_static in selected-asked types class (before g scope from (raw g scope from)) w
raw-asked types class in_static scope (e.CallOn from w args closing) =
    let g = grounded types class in_static in let b = before g scope from (raw g scope from) in let m = method_named types (class_before b.base) w.text (count args) in
    called_on-asked types class b w (count args) m (raw_all g scope (method_params m) args)
raw-asked types class in_static scope (e.Not at operand) =
    let b = fit types (Of face.Bool) (is_paren operand) (raw (grounded types class in_static) scope operand) in
    unless-asked class b.notes (is_bad b.term) (suc at) (suc at) value.Boolean tt
raw-asked types class in_static scope (e.Neg at operand) =
    let b = fit types (Of face.Int) (is_paren operand) (raw (grounded types class in_static) scope operand) in
    unless-asked class b.notes (is_bad b.term) (suc at) (suc at) value.Int tt
raw-asked types class in_static scope (e.Binary l op at r) =
    let g = grounded types class in_static in let a = fit types (left_place op) (is_paren l) (raw g scope l) in let b = raw g scope r in
    joined-asked class (with_two types op (suc at) a (is_paren r) b).notes op (suc at) a.term (fit_term types (right_place op (stamp_of a.term).ty) (is_paren r) b.term)

-- the class before a dot
pub before-asked : (types : Types) (class : Name) (in_static : Bool) (scope : Scope) (from : PlainExpr)
    → IsAskedName class (before (grounded types class in_static) scope from (raw (grounded types class in_static) scope from)).notes
    (class_before (before (grounded types class in_static) scope from (raw (grounded types class in_static) scope from)).base)
before-asked types class in_static scope from =
    let g = grounded types class in_static in let b = raw g scope from in
    by-asked types class (type_word g scope from) (fit types AnyValue (is_paren from) b)
    (fit-asked types class AnyValue (is_paren from) b (raw-asked types class in_static scope from))

pub types-asked : TypesAreAsked
types-asked types class in_static scope p x =
    fit-asked types class p (is_paren x) (raw (grounded types class in_static) scope x) (raw-asked types class in_static scope x)
