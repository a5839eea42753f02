-- Each field, method and constructor that stands in a bound expression is told by its notes.
use Rattle.std.proofs.Common.{◌≡◌, refl, ℕ, suc, ◌+◌, Bool, true, false, ◌||◌, if◌then◌else◌, List, [], ◌∷◌, ◌++◌, ◌⊎◌, inl, inr, drop, codes, Option, Some, None, sym, ap, ◌∙◌, subst, add-one}
use Rattle.class_faces.specs.declared.face.FaceTy.TheVariants as face
use Rattle.class_faces.specs.declared.face.FieldFace.{FieldFace}
use Rattle.class_faces.specs.declared.face.ParamFace.{ParamFace}
use Rattle.class_faces.specs.declared.face.MemberFace.{MemberFace}
use Rattle.java_tree.specs.declared.expr.BinaryOp.{BinaryOp}
use Rattle.java_tree.specs.declared.expr.BinaryOp.TheVariants as operator
use Rattle.result_records.specs.declared.code.FindingCode.{FindingCode}
use Rattle.bound_tree.specs.declared.tree.Stamp.{Stamp}
use Rattle.bound_tree.specs.Tree.{Term, Terms, no_terms, term, stamp_of, is_bad}
use Rattle.bound_tree.specs.Tree as t
use Rattle.bound_tree.specs.Reading.{terms}
use Rattle.bound_tree.specs.Places.{Place, What, Goal, Reads, Writes, Calls, Makes, Starts, Locks, Flows, Of, OfClass, ToReceiver, ToArgument, ToConstructor, ToNothing, term_places, args_places}
use Rattle.lowering.specs.Lower as lower
use Rattle.tree_places.specs.PlainExpr.{PlainLexeme, PlainExpr, PlainExprs}
use Rattle.tree_places.specs.PlainExpr as e
use Rattle.name_rules.specs.declared.note.Note.{Note}
use Rattle.name_rules.specs.declared.note.Note.TheVariants as note
use Rattle.name_rules.specs.Types.{Name, Types, is_known_name, field_in}
use Rattle.name_rules.specs.Scopes.{Scope, Meaning, IsVariable, IsField, IsHidden, IsFree}
use Rattle.name_rules.specs.Places as asked
use Rattle.expression_binding.specs.Stamps.{restamped, stamp_from, spoilt_stamp}
use Rattle.expression_binding.specs.Fields.{NamedField, face_field, named_field, field_named}
use Rattle.expression_binding.specs.Methods.{NamedMethod, method_in, method_named, method_params, method_notes, made_by, made_notes, is_made, maker_params}
use Rattle.expression_binding.specs.Before.{Before, OnType, OnValue, class_before}
use Rattle.expression_binding.specs.Bound.{Ground, grounded, Bound, Bounds, found_at, finding_if, spoilt_if, fit, fit_term, is_paren, argument_place, count, this_at, meant, meaning_of, Based, type_word, before_by, before, field_made, selected, own_called, called_on, call_made, call_notes, newly_made, left_place, right_place, right_notes, term_on_two, raw, raw_all}
use Rattle.expression_binding.specs.Laws.{IsTold}
use Rattle.binding_laws.proofs.Told.{told-front, told-back}
use Rattle.binding_laws.proofs.AskedTypes.{IsAskedName, before-asked}

-- ---- what stands in a term

-- each field that is read, and each member that is called or made
abbrev mutual
  pub TermEach : (What → Type 0) → Term → Type 0
  TermEach P (t.Const s l) = Unit {0}
  TermEach P (t.This s) = Unit {0}
  TermEach P (t.Local s x) = Unit {0}
  TermEach P (t.Field s b f) = TermEach P b × P (Reads f (Of b))
  TermEach P (t.Static s f) = P (Reads f OfClass)
  TermEach P (t.New s c es) = TermsEach P es × P (Makes c es)
  TermEach P (t.Call s r m es) = TermEach P r × TermsEach P es × P (Calls m (Of r) es)
  TermEach P (t.CallStatic s m es) = TermsEach P es × P (Calls m OfClass es)
  TermEach P (t.Unknown s n es) = TermsEach P es
  TermEach P (t.UnknownField s b n) = TermEach P b
  TermEach P (t.UnknownCall s r n es) = TermEach P r × TermsEach P es
  TermEach P (t.Unary s o a) = TermEach P a
  TermEach P (t.And s a b) = TermEach P a × TermEach P b
  TermEach P (t.Or s a b) = TermEach P a × TermEach P b
  TermEach P (t.Binary s o a b) = TermEach P a × TermEach P b

  pub TermsEach : (What → Type 0) → Terms → Type 0
  TermsEach P t.no_terms = Unit {0}
  TermsEach P (t.term e es) = TermEach P e × TermsEach P es

mutual
  pub term-more : (P Q : What → Type 0) → ((w : What) → P w → Q w) → (v : Term) → TermEach P v → TermEach Q v
  term-more P Q more (t.Const s l) h = tt
  term-more P Q more (t.This s) h = tt
  term-more P Q more (t.Local s x) h = tt
  term-more P Q more (t.Field s b f) h = (term-more P Q more b h.0, more (Reads f (Of b)) h.1)
  term-more P Q more (t.Static s f) h = more (Reads f OfClass) h
  term-more P Q more (t.New s c es) h = (terms-more P Q more es h.0, more (Makes c es) h.1)
  term-more P Q more (t.Call s r m es) h = (term-more P Q more r h.0, terms-more P Q more es h.1, more (Calls m (Of r) es) h.2)
  term-more P Q more (t.CallStatic s m es) h = (terms-more P Q more es h.0, more (Calls m OfClass es) h.1)
  term-more P Q more (t.Unknown s n es) h = terms-more P Q more es h
  term-more P Q more (t.UnknownField s b n) h = term-more P Q more b h
  term-more P Q more (t.UnknownCall s r n es) h = (term-more P Q more r h.0, terms-more P Q more es h.1)
  term-more P Q more (t.Unary s o a) h = term-more P Q more a h
  term-more P Q more (t.And s a b) h = (term-more P Q more a h.0, term-more P Q more b h.1)
  term-more P Q more (t.Or s a b) h = (term-more P Q more a h.0, term-more P Q more b h.1)
  term-more P Q more (t.Binary s o a b) h = (term-more P Q more a h.0, term-more P Q more b h.1)

  pub terms-more : (P Q : What → Type 0) → ((w : What) → P w → Q w) → (es : Terms) → TermsEach P es → TermsEach Q es
  terms-more P Q more t.no_terms h = tt
  terms-more P Q more (t.term e es) h = (term-more P Q more e h.0, terms-more P Q more es h.1)

pub restamped-each : (P : What → Type 0) (change : Stamp → Stamp) (v : Term) → TermEach P v → TermEach P (restamped change v)
restamped-each P change (t.Const s l) h = h
restamped-each P change (t.This s) h = h
restamped-each P change (t.Local s x) h = h
restamped-each P change (t.Field s b f) h = h
restamped-each P change (t.Static s f) h = h
restamped-each P change (t.New s c es) h = h
restamped-each P change (t.Call s r m es) h = h
restamped-each P change (t.CallStatic s m es) h = h
restamped-each P change (t.Unknown s n es) h = h
restamped-each P change (t.UnknownField s b n) h = h
restamped-each P change (t.UnknownCall s r n es) h = h
restamped-each P change (t.Unary s o a) h = h
restamped-each P change (t.And s a b) h = h
restamped-each P change (t.Or s a b) h = h
restamped-each P change (t.Binary s o a b) h = h

spoilt-each : (P : What → Type 0) (found : Option FindingCode) (in_paren : Bool) (v : Term) → TermEach P v → TermEach P (spoilt_if found in_paren v)
spoilt-each P None in_paren v h = h
spoilt-each P (Some c) in_paren v h = restamped-each P (spoilt_stamp in_paren) v h

either-each : (P : What → Type 0) (b : Bool) (x y : Term) → TermEach P x → TermEach P y → TermEach P (if b then x else y)
either-each P true x y p q = p
either-each P false x y p q = q

on_two-each : (P : What → Type 0) (op : BinaryOp) (s : Stamp) (a b : Term) → TermEach P a × TermEach P b → TermEach P (term_on_two op s a b)
on_two-each P operator.Or s a b h = h
on_two-each P operator.And s a b h = h
on_two-each P operator.Equal s a b h = h
on_two-each P operator.NotEqual s a b h = h
on_two-each P operator.Less s a b h = h
on_two-each P operator.Greater s a b h = h
on_two-each P operator.AtMost s a b h = h
on_two-each P operator.AtLeast s a b h = h
on_two-each P operator.Add s a b h = h
on_two-each P operator.Subtract s a b h = h
on_two-each P operator.Multiply s a b h = h
on_two-each P operator.Divide s a b h = h
on_two-each P operator.Remainder s a b h = h

-- ---- what is told

-- a member of the class is told as called with so many arguments
abbrev pub IsCalled : List Note → Name → Name → ℕ → Type 0
IsCalled [] c name n = ⊥
IsCalled (note.Calls d other k ∷ notes) c name n = ((c ≡ d) × (name ≡ other) × (n ≡ k)) ⊎ IsCalled notes c name n
IsCalled (note.Names d ∷ notes) c name n = IsCalled notes c name n
IsCalled (note.Finding found at ∷ notes) c name n = IsCalled notes c name n

abbrev pub IsOwnOrTold : Name → List Note → Name → Type 0
IsOwnOrTold class notes c = (c ≡ class) ⊎ IsTold notes c

abbrev pub IsCovered : Name → List Note → What → Type 0
IsCovered class notes (Reads f owner) = IsOwnOrTold class notes f.class
IsCovered class notes (Writes f owner) = IsOwnOrTold class notes f.class
IsCovered class notes (Calls m owner es) = IsCalled notes m.class m.name (lower.count es)
IsCovered class notes (Makes c es) = IsCalled notes c (codes "new") (lower.count es)
IsCovered class notes (Starts e) = Unit {0}
IsCovered class notes (Locks e) = Unit {0}
IsCovered class notes (Flows e goal) = Unit {0}

called-front : (ns ms : List Note) (c name : Name) (n : ℕ) → IsCalled ns c name n → IsCalled (ns ++ ms) c name n
called-front [] ms c name n h = absurd h
called-front (note.Calls d other k ∷ ns) ms c name n (inl h) = inl h
called-front (note.Calls d other k ∷ ns) ms c name n (inr h) = inr (called-front ns ms c name n h)
called-front (note.Names d ∷ ns) ms c name n h = called-front ns ms c name n h
called-front (note.Finding found at ∷ ns) ms c name n h = called-front ns ms c name n h

called-back : (ns ms : List Note) (c name : Name) (n : ℕ) → IsCalled ms c name n → IsCalled (ns ++ ms) c name n
called-back [] ms c name n h = h
called-back (note.Calls d other k ∷ ns) ms c name n h = inr (called-back ns ms c name n h)
called-back (note.Names d ∷ ns) ms c name n h = called-back ns ms c name n h
called-back (note.Finding found at ∷ ns) ms c name n h = called-back ns ms c name n h

own_or-front : (class : Name) (ns ms : List Note) (c : Name) → IsOwnOrTold class ns c → IsOwnOrTold class (ns ++ ms) c
own_or-front class ns ms c (inl h) = inl h
own_or-front class ns ms c (inr h) = inr (told-front ns ms c h)

own_or-back : (class : Name) (ns ms : List Note) (c : Name) → IsOwnOrTold class ms c → IsOwnOrTold class (ns ++ ms) c
own_or-back class ns ms c (inl h) = inl h
own_or-back class ns ms c (inr h) = inr (told-back ns ms c h)

pub covered-front : (class : Name) (ns ms : List Note) (w : What) → IsCovered class ns w → IsCovered class (ns ++ ms) w
covered-front class ns ms (Reads f owner) h = own_or-front class ns ms f.class h
covered-front class ns ms (Writes f owner) h = own_or-front class ns ms f.class h
covered-front class ns ms (Calls m owner es) h = called-front ns ms m.class m.name (lower.count es) h
covered-front class ns ms (Makes c es) h = called-front ns ms c (codes "new") (lower.count es) h
covered-front class ns ms (Starts e) h = tt
covered-front class ns ms (Locks e) h = tt
covered-front class ns ms (Flows e goal) h = tt

pub covered-back : (class : Name) (ns ms : List Note) (w : What) → IsCovered class ms w → IsCovered class (ns ++ ms) w
covered-back class ns ms (Reads f owner) h = own_or-back class ns ms f.class h
covered-back class ns ms (Writes f owner) h = own_or-back class ns ms f.class h
covered-back class ns ms (Calls m owner es) h = called-back ns ms m.class m.name (lower.count es) h
covered-back class ns ms (Makes c es) h = called-back ns ms c (codes "new") (lower.count es) h
covered-back class ns ms (Starts e) h = tt
covered-back class ns ms (Locks e) h = tt
covered-back class ns ms (Flows e goal) h = tt

pub term-front : (class : Name) (ns ms : List Note) (v : Term) → TermEach (IsCovered class ns) v → TermEach (IsCovered class (ns ++ ms)) v
term-front class ns ms = term-more (IsCovered class ns) (IsCovered class (ns ++ ms)) (covered-front class ns ms)

pub term-back : (class : Name) (ns ms : List Note) (v : Term) → TermEach (IsCovered class ms) v → TermEach (IsCovered class (ns ++ ms)) v
term-back class ns ms = term-more (IsCovered class ms) (IsCovered class (ns ++ ms)) (covered-back class ns ms)

terms-front : (class : Name) (ns ms : List Note) (es : Terms) → TermsEach (IsCovered class ns) es → TermsEach (IsCovered class (ns ++ ms)) es
terms-front class ns ms = terms-more (IsCovered class ns) (IsCovered class (ns ++ ms)) (covered-front class ns ms)

terms-back : (class : Name) (ns ms : List Note) (es : Terms) → TermsEach (IsCovered class ms) es → TermsEach (IsCovered class (ns ++ ms)) es
terms-back class ns ms = terms-more (IsCovered class ms) (IsCovered class (ns ++ ms)) (covered-back class ns ms)

-- ---- places

pub fit-covers : (types : Types) (class : Name) (p : asked.Place) (in_paren : Bool) (b : Bound) → TermEach (IsCovered class b.notes) b.term
    → TermEach (IsCovered class (fit types p in_paren b).notes) (fit types p in_paren b).term
fit-covers types class p in_paren b h =
    let found = found_at types p b.term in
    spoilt-each (IsCovered class (b.notes ++ finding_if found b.term)) found in_paren b.term (term-front class b.notes (finding_if found b.term) b.term h)

-- ---- names

meant-covers : (types : Types) (class : Name) (in_static : Bool) (at : ℕ) (name : Name) (m : Meaning)
    → TermEach (IsCovered class (meant (grounded types class in_static) at name m).notes) (meant (grounded types class in_static) at name m).term
meant-covers types class in_static at name (IsVariable v) = tt
meant-covers types class in_static at name (IsField f) =
    let notes = (meant (grounded types class in_static) at name (IsField f)).notes in
    either-each (IsCovered class notes) f.is_static _ _ (inl refl) (either-each (IsCovered class notes) in_static _ _ tt (tt, inl refl))
meant-covers types class in_static at name IsHidden = tt
meant-covers types class in_static at name IsFree = tt

this-covers : (P : What → Type 0) (types : Types) (class : Name) (in_static : Bool) (at : ℕ) → TermEach P (this_at (grounded types class in_static) at).term
this-covers P types class true at = tt
this-covers P types class false at = tt

-- ---- before a dot

abbrev BeforeEach : (What → Type 0) → Before → Type 0
BeforeEach P (OnType c at) = Unit {0}
BeforeEach P (OnValue v) = TermEach P v

before-back : (class : Name) (ns ms : List Note) (b : Before) → BeforeEach (IsCovered class ns) b → BeforeEach (IsCovered class (ns ++ ms)) b
before-back class ns ms (OnType c at) h = tt
before-back class ns ms (OnValue v) h = term-front class ns ms v h

either-based : (class : Name) (known : Bool) (x y : Based) → BeforeEach (IsCovered class x.notes) x.base → BeforeEach (IsCovered class y.notes) y.base
    → BeforeEach (IsCovered class (if known then x else y).notes) (if known then x else y).base
either-based class true x y p q = p
either-based class false x y p q = q

by-covers : (types : Types) (class : Name) (w : Option PlainLexeme) (b : Bound) → TermEach (IsCovered class b.notes) b.term
    → BeforeEach (IsCovered class (before_by types w b).notes) (before_by types w b).base
by-covers types class None b h = h
by-covers types class (Some w) b h = either-based class (is_known_name types w.text) _ _ tt tt

-- ---- fields behind a dot

face_field-class : (c : Name) (found : Option FieldFace) (f : NamedField) → face_field c found ≡ Some f → f.named.class ≡ c
face_field-class c None f h = absurd (let no : ⊥ = cc in no)
face_field-class c (Some g) f h = let same : named_field c g ≡ f = cc in sym (ap (λ (x : NamedField). x.named.class) same)

-- no field of String is found, which isn't declared
field-owner : (types : Types) (class : Name) (notes : List Note) → types (codes "String") ≡ None → (c : Option Name) → IsAskedName class notes c → (name : Name) (f : NamedField)
    → field_named types c name ≡ Some f → IsOwnOrTold class notes f.named.class
field-owner types class notes none None h name f found = absurd (let no : ⊥ = cc in no)
field-owner types class notes none (Some c) (inl own) name f found = inl (face_field-class c (field_in name (types c)) f found ∙ own)
field-owner types class notes none (Some c) (inr (inl s)) name f found =
    let gone : None ≡ Some f = sym (ap (λ (shown : _). face_field c (field_in name shown)) (ap types s ∙ none)) ∙ found in absurd (let no : ⊥ = cc in no)
field-owner types class notes none (Some c) (inr (inr told)) name f found =
    inr (subst (λ (d : Name). IsTold notes d) (sym (face_field-class c (field_in name (types c)) f found)) told)

made-covers : (types : Types) (class : Name) (notes : List Note) (b : Before) (at : ℕ) (name : Name) (found : Option NamedField)
    → ((f : NamedField) → found ≡ Some f → IsOwnOrTold class notes f.named.class) → BeforeEach (IsCovered class notes) b
    → TermEach (IsCovered class notes) (field_made types b at name found)
made-covers types class notes (OnType c first) at name None own h = tt
made-covers types class notes (OnValue v) at name None own h = h
made-covers types class notes (OnType c first) at name (Some f) own h = either-each (IsCovered class notes) f.is_static _ _ (own f refl) tt
made-covers types class notes (OnValue v) at name (Some f) own h = either-each (IsCovered class notes) f.is_static _ _ h (h, own f refl)

selected-covers : (types : Types) (class : Name) → types (codes "String") ≡ None → (b : Based) (w : PlainLexeme)
    → IsAskedName class b.notes (class_before b.base) → BeforeEach (IsCovered class b.notes) b.base
    → TermEach (IsCovered class (selected types b w).notes) (selected types b w).term
selected-covers types class none b w named h =
    term-front class b.notes _ (selected types b w).term
    (made-covers types class b.notes b.base (suc w.at) w.text (field_named types (class_before b.base) w.text)
    (field-owner types class b.notes none (class_before b.base) named w.text) h)

-- ---- calls

own_called-covers : (types : Types) (class : Name) (in_static : Bool) (w : PlainLexeme) (n : ℕ) (m : Option NamedMethod) (args : Bounds)
    → lower.count (terms args.terms) ≡ n → TermsEach (IsCovered class args.notes) (terms args.terms)
    → TermEach (IsCovered class (own_called (grounded types class in_static) w n m args).notes) (own_called (grounded types class in_static) w n m args).term
own_called-covers types class in_static w n None args is h = terms-front class args.notes _ (terms args.terms) h
own_called-covers types class in_static w n (Some m) args is h =
    let notes = (own_called (grounded types class in_static) w n (Some m) args).notes in
    let each = terms-back class (method_notes n (Some m)) _ (terms args.terms) (terms-front class args.notes _ (terms args.terms) h) in
    either-each (IsCovered class notes) (m.is_static || in_static) _ _ (each, inl (refl, refl, is)) (tt, each, inl (refl, refl, is))

call_made-covers : (types : Types) (class : Name) (notes : List Note) (b : Before) (at : ℕ) (name : Name) (m : Option NamedMethod) (args : List Term)
    → ((x : NamedMethod) → m ≡ Some x → IsCalled notes x.named.class x.named.name (lower.count (terms args)))
    → BeforeEach (IsCovered class notes) b → TermsEach (IsCovered class notes) (terms args)
    → TermEach (IsCovered class notes) (call_made types b at name m args)
call_made-covers types class notes (OnType c first) at name None args called h each = each
call_made-covers types class notes (OnValue v) at name None args called h each = (h, each)
call_made-covers types class notes (OnType c first) at name (Some m) args called h each = (each, called m refl)
call_made-covers types class notes (OnValue v) at name (Some m) args called h each = (h, each, called m refl)

method-called : (n k : ℕ) (m : Option NamedMethod) (rest : List Note) → k ≡ n → (x : NamedMethod) → m ≡ Some x → IsCalled (method_notes n m ++ rest) x.named.class x.named.name k
method-called n k None rest is x found = absurd (let no : ⊥ = cc in no)
method-called n k (Some m) rest is x found =
    let same : m ≡ x = cc in inl (ap (λ (y : NamedMethod). y.named.class) (sym same), ap (λ (y : NamedMethod). y.named.name) (sym same), is)

called_on-covers : (types : Types) (class : Name) (b : Based) (w : PlainLexeme) (n : ℕ) (m : Option NamedMethod) (args : Bounds)
    → lower.count (terms args.terms) ≡ n → BeforeEach (IsCovered class b.notes) b.base → TermsEach (IsCovered class args.notes) (terms args.terms)
    → TermEach (IsCovered class (called_on types b w n m args).notes) (called_on types b w n m args).term
called_on-covers types class b w n m args is h each =
    let told = args.notes ++ call_notes types b.base (suc w.at) m args.terms in
    call_made-covers types class (called_on types b w n m args).notes b.base (suc w.at) w.text m args.terms
    (λ x found. called-back b.notes (method_notes n m ++ told) x.named.class x.named.name (lower.count (terms args.terms)) (method-called n _ m told is x found))
    (before-back class b.notes (method_notes n m ++ told) b.base h)
    (terms-back class b.notes (method_notes n m ++ told) (terms args.terms)
    (terms-back class (method_notes n m) told (terms args.terms) (terms-front class args.notes _ (terms args.terms) each)))

newly_made-covers : (types : Types) (class : Name) (at : ℕ) (w : PlainLexeme) (n : ℕ) (m : Option MemberFace) (args : Bounds)
    → lower.count (terms args.terms) ≡ n → TermsEach (IsCovered class args.notes) (terms args.terms)
    → TermEach (IsCovered class (newly_made types at w n m args).notes) (newly_made types at w n m args).term
newly_made-covers types class at w n m args is h =
    let notes = (newly_made types at w n m args).notes in
    let each = terms-back class (made_notes w.text n m) _ (terms args.terms) (terms-front class args.notes _ (terms args.terms) h) in
    either-each (IsCovered class notes) (is_known_name types w.text) _ _
    (either-each (IsCovered class notes) (is_made types w.text n) _ _ (each, inl (refl, refl, is)) each) each

-- ---- expressions

bound-count : (g : Ground) (scope : Scope) (params : List ParamFace) (xs : PlainExprs) → lower.count (terms (raw_all g scope params xs).terms) ≡ count xs
unfolding raw
bound-count g scope params e.no_exprs = refl
bound-count g scope params (e.expr x xs) = ap (λ (k : ℕ). k + 1) (bound-count g scope (drop 1 params) xs) ∙ add-one (count xs)

module _ (types : Types) (class : Name) (none : types (codes "String") ≡ None) (in_static : Bool) (scope : Scope) where
  abbrev ground : Ground
  ground = grounded types class in_static

  before-covers : (from : PlainExpr) → TermEach (IsCovered class (raw ground scope from).notes) (raw ground scope from).term
      → BeforeEach (IsCovered class (before ground scope from (raw ground scope from)).notes) (before ground scope from (raw ground scope from)).base
  before-covers from h =
      by-covers types class (type_word ground scope from) (fit types asked.AnyValue (is_paren from) (raw ground scope from))
      (fit-covers types class asked.AnyValue (is_paren from) (raw ground scope from) h)

  mutual
    unfolding raw

    pub raw-covers : (x : PlainExpr) → TermEach (IsCovered class (raw ground scope x).notes) (raw ground scope x).term
    raw-covers (e.Int w) = tt
    raw-covers (e.Str w) = tt
    raw-covers (e.True at) = tt
    raw-covers (e.False at) = tt
    raw-covers (e.Null at) = tt
    raw-covers (e.This at) = this-covers (IsCovered class (this_at ground (suc at)).notes) types class in_static (suc at)
    raw-covers (e.Name w) = meant-covers types class in_static (suc w.at) w.text (meaning_of ground scope w.text)
    raw-covers (e.Call w args closing) =
        let m = method_in types class w.text (count args) in
        own_called-covers types class in_static w (count args) m (raw_all ground scope (method_params m) args)
        (bound-count ground scope (method_params m) args) (raw_all-covers (method_params m) args)
    raw-covers (e.New at w args closing) =
        let m = made_by types w.text (count args) in
        newly_made-covers types class (suc at) w (count args) m (raw_all ground scope (maker_params m) args)
        (bound-count ground scope (maker_params m) args) (raw_all-covers (maker_params m) args)
    raw-covers (e.Paren opening inside closing) =
        let b = raw ground scope inside in restamped-each (IsCovered class b.notes) (stamp_from (suc opening)) b.term (raw-covers inside)
    raw-covers (e.Select from w) =
        selected-covers types class none (before ground scope from (raw ground scope from)) w (before-asked types class in_static scope from)
        (before-covers from (raw-covers from))
    raw-covers (e.CallOn from w args closing) =
        let b = before ground scope from (raw ground scope from) in let m = method_named types (class_before b.base) w.text (count args) in
        called_on-covers types class b w (count args) m (raw_all ground scope (method_params m) args)
        (bound-count ground scope (method_params m) args) (before-covers from (raw-covers from)) (raw_all-covers (method_params m) args)
    raw-covers (e.Not at operand) = fit-covers types class (asked.Of face.Bool) (is_paren operand) (raw ground scope operand) (raw-covers operand)
    raw-covers (e.Neg at operand) = fit-covers types class (asked.Of face.Int) (is_paren operand) (raw ground scope operand) (raw-covers operand)
    raw-covers (e.Binary l op at r) =
        let a = fit types (left_place op) (is_paren l) (raw ground scope l) in
        let b = raw ground scope r in
        let p = right_place op (stamp_of a.term).ty in
        let told = right_notes types op a.term b.term in
        on_two-each (IsCovered class (a.notes ++ (b.notes ++ told))) op _ a.term (fit_term types p (is_paren r) b.term) (
          term-front class a.notes (b.notes ++ told) a.term (fit-covers types class (left_place op) (is_paren l) (raw ground scope l) (raw-covers l)),
          term-back class a.notes (b.notes ++ told) (fit_term types p (is_paren r) b.term) (fit-covers types class p (is_paren r) b (raw-covers r)),
        )

    pub raw_all-covers : (params : List ParamFace) (xs : PlainExprs) → TermsEach (IsCovered class (raw_all ground scope params xs).notes) (terms (raw_all ground scope params xs).terms)
    raw_all-covers params e.no_exprs = tt
    raw_all-covers params (e.expr x xs) =
        let a = fit types (argument_place params) (is_paren x) (raw ground scope x) in (
          term-front class a.notes _ a.term (fit-covers types class (argument_place params) (is_paren x) (raw ground scope x) (raw-covers x)),
          terms-back class a.notes _ (terms (raw_all ground scope (drop 1 params) xs).terms) (raw_all-covers (drop 1 params) xs),
        )

  pub fitted-covers : (p : asked.Place) (x : PlainExpr) → TermEach (IsCovered class (fit types p (is_paren x) (raw ground scope x)).notes) (fit types p (is_paren x) (raw ground scope x)).term
  fitted-covers p x = fit-covers types class p (is_paren x) (raw ground scope x) (raw-covers x)

-- ---- places

abbrev pub Each : (What → Type 0) → List Place → Type 0
Each P [] = Unit {0}
Each P (p ∷ ps) = P p.what × Each P ps

pub each-both : (P : What → Type 0) (ps qs : List Place) → Each P ps → Each P qs → Each P (ps ++ qs)
each-both P [] qs h k = k
each-both P (p ∷ ps) qs h k = (h.0, each-both P ps qs h.1 k)

module _ (P : What → Type 0) (flows : (e : Term) (g : Goal) → P (Flows e g)) (ph : Terms) where
  mutual
    pub term-places : (v : Term) → TermEach P v → Each P (term_places ph v)
    term-places (t.Const s l) h = tt
    term-places (t.This s) h = tt
    term-places (t.Local s x) h = tt
    term-places (t.Field s b f) h = each-both P (term_places ph b) _ (term-places b h.0) (h.1, tt)
    term-places (t.Static s f) h = (h, tt)
    term-places (t.New s c es) h = each-both P (args_places ph (ToConstructor c) 0 es) _ (args-places (ToConstructor c) 0 es h.0) (h.1, tt)
    term-places (t.Call s r m es) h =
        each-both P (term_places ph r) _ (term-places r h.0)
        (flows r (ToReceiver m), each-both P (args_places ph (ToArgument m) 0 es) _ (args-places (ToArgument m) 0 es h.1) (h.2, tt))
    term-places (t.CallStatic s m es) h = each-both P (args_places ph (ToArgument m) 0 es) _ (args-places (ToArgument m) 0 es h.0) (h.1, tt)
    term-places (t.Unknown s n es) h = args-places (λ _. ToNothing n) 0 es h
    term-places (t.UnknownField s b n) h = term-places b h
    term-places (t.UnknownCall s r n es) h =
        each-both P (term_places ph r) _ (term-places r h.0) (flows r (ToNothing n), args-places (λ _. ToNothing n) 0 es h.1)
    term-places (t.Unary s o a) h = term-places a h
    term-places (t.And s a b) h = each-both P (term_places ph a) (term_places ph b) (term-places a h.0) (term-places b h.1)
    term-places (t.Or s a b) h = each-both P (term_places ph a) (term_places ph b) (term-places a h.0) (term-places b h.1)
    term-places (t.Binary s o a b) h = each-both P (term_places ph a) (term_places ph b) (term-places a h.0) (term-places b h.1)

    pub args-places : (to : ℕ → Goal) (n : ℕ) (es : Terms) → TermsEach P es → Each P (args_places ph to n es)
    args-places to n t.no_terms h = tt
    args-places to n (t.term e es) h = each-both P (term_places ph e) _ (term-places e h.0) (flows e (to n), args-places to (n + 1) es h.1)
