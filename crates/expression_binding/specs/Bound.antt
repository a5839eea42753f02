-- What the names in an expression name, the type of each expression, what is found in it, and what is
-- consulted for it: by cases of the expression, where each place is a number.
use Rattle.std.specs.Prelude.{ℕ, suc, Bool, true, false, not, ◌&&◌, ◌||◌, if◌then◌else◌, List, [], ◌∷◌, ◌++◌, drop, codes, Option, Some, None}
use Rattle.std.specs.List.{list_any}
use Rattle.class_faces.specs.declared.face.FaceTy.{FaceTy}
use Rattle.class_faces.specs.declared.face.FaceTy.TheVariants as face
use Rattle.class_faces.specs.declared.face.FieldFace.{FieldFace}
use Rattle.class_faces.specs.declared.face.ParamFace.{ParamFace}
use Rattle.class_faces.specs.declared.face.MemberFace.{MemberFace}
use Rattle.core_model.specs.declared.instr.Op.TheVariants as arithmetic
use Rattle.result_records.specs.declared.code.FindingCode.{FindingCode}
use Rattle.result_records.specs.declared.code.FindingCode.TheVariants as code
use Rattle.java_lexer.specs.Value.{string_value}
use Rattle.java_tree.specs.declared.expr.BinaryOp.{BinaryOp}
use Rattle.java_tree.specs.declared.expr.BinaryOp.TheVariants as operator
use Rattle.tree_places.specs.PlainExpr.{PlainLexeme, PlainExpr, PlainExprs}
use Rattle.tree_places.specs.PlainExpr as e
use Rattle.bound_tree.specs.declared.name.ValueType.{ValueType}
use Rattle.bound_tree.specs.declared.name.ValueType.TheVariants as value
use Rattle.bound_tree.specs.declared.name.MemberName.{MemberName}
use Rattle.bound_tree.specs.declared.tree.Stamp.{Stamp}
use Rattle.bound_tree.specs.declared.tree.Literal.{Literal}
use Rattle.bound_tree.specs.declared.tree.Literal.TheVariants as literal
use Rattle.bound_tree.specs.declared.tree.UnaryOp.{UnaryOp}
use Rattle.bound_tree.specs.declared.tree.UnaryOp.TheVariants as unary
use Rattle.bound_tree.specs.Tree.{Term, no_terms, stamp_of, is_bad}
use Rattle.bound_tree.specs.Tree as t
use Rattle.bound_tree.specs.Reading.{terms}
use Rattle.name_rules.specs.declared.uses.Use.{Use}
use Rattle.name_rules.specs.declared.uses.Use.TheVariants as usage
use Rattle.name_rules.specs.declared.scope.Variable.{Variable}
use Rattle.name_rules.specs.declared.note.Note.{Note}
use Rattle.name_rules.specs.declared.note.Note.TheVariants.{Finding, Names}
use Rattle.name_rules.specs.Types.{Name, Types, field_of, is_known_name}
use Rattle.name_rules.specs.Notes.{found_if, consults}
use Rattle.name_rules.specs.Scopes.{Scope, Meaning, IsVariable, IsField, IsHidden, IsFree, meaning_in}
use Rattle.name_rules.specs.Places.{Place, Anywhere, AnyValue, Of, Beside, use_of, use_notes, misplaced}
use Rattle.expression_binding.specs.Stamps.{judged_type, judged_given, string_type, sound, faulty, unless_bad, used, stamp_from, spoilt_stamp, restamped}
use Rattle.expression_binding.specs.Literals.{int_value}
use Rattle.expression_binding.specs.Fields.{NamedField, field_name, field_named}
use Rattle.expression_binding.specs.Methods.{NamedMethod, method_in, method_named, method_params, method_notes, made_by, maker_params, made_notes, is_made}
use Rattle.expression_binding.specs.Before.{Before, OnType, OnValue, first_of, is_lost, is_misuse, class_before}

-- where an expression stands: the types that it is bound under, the own class, and whether the place
-- is static
pub record Ground : Type 0 where
  pub types : Types
  pub class : Name
  pub is_static : Bool

abbrev pub grounded : Types → Name → Bool → Ground
grounded types class is_static = record { types = types; class = class; is_static = is_static }

-- a bound expression and what is told of it; numbers of tokens are from 1
pub record Bound : Type 0 where
  pub term : Term
  pub notes : List Note

pub record Bounds : Type 0 where
  pub terms : List Term
  pub notes : List Note

-- ---- a place for the expression

-- one with a bind finding inside gives no further one
abbrev pub found_at : Types → Place → Term → Option FindingCode
found_at types p v = if is_bad v then None else misplaced types p (judged_given (stamp_of v).ty)

abbrev pub spoilt_if : Option FindingCode → Bool → Term → Term
spoilt_if None in_paren v = v
spoilt_if (Some c) in_paren v = restamped (spoilt_stamp in_paren) v

-- the finding, if there is one, is at its first token
abbrev pub finding_if : Option FindingCode → Term → List Note
finding_if None v = []
finding_if (Some c) v = Finding c (stamp_of v).first ∷ []

abbrev pub fit_term : Types → Place → Bool → Term → Term
fit_term types p in_paren v = spoilt_if (found_at types p v) in_paren v

abbrev pub fit_notes : Types → Place → Term → List Note
fit_notes types p v = finding_if (found_at types p v) v

abbrev pub fit : Types → Place → Bool → Bound → Bound
fit types p in_paren b = record { term = fit_term types p in_paren b.term; notes = b.notes ++ fit_notes types p b.term }

abbrev pub is_paren : PlainExpr → Bool
is_paren (e.Paren opening inside closing) = true
is_paren _ = false

abbrev pub any_bad : List Term → Bool
any_bad vs = list_any is_bad vs

-- the place of the next argument, by the parameters that are left
abbrev pub argument_place : List ParamFace → Place
argument_place [] = Anywhere
argument_place (p ∷ ps) = Of p.ty

abbrev pub before_others : Bound → Bounds → Bounds
before_others b bs = record { terms = b.term ∷ bs.terms; notes = b.notes ++ bs.notes }

abbrev pub count : PlainExprs → ℕ
count e.no_exprs = 0
count (e.expr a others) = suc (count others)

-- ---- literals and `this`

abbrev pub constant : ℕ → ValueType → Literal → Bound
constant at ty l = record { term = t.Const (sound at at (Some ty)) l; notes = [] }

-- what has no meaning, and the finding there
abbrev pub unknown : FindingCode → ℕ → Name → Bound
unknown c at name = record { term = t.Unknown (faulty at at) name no_terms; notes = Finding c at ∷ [] }

abbrev pub this_of : Name → ℕ → Term
this_of c at = t.This (sound at at (Some (value.Named c)))

abbrev pub this_at : Ground → ℕ → Bound
this_at g at = if g.is_static then unknown code.StaticUse at (codes "this") else record { term = this_of g.class at; notes = [] }

-- ---- fields

-- a declared type that is got is consulted
abbrev pub field_notes : ℕ → FaceTy → Use → List Note
field_notes at ty found = consults ty ++ use_notes at found

-- a bare name of a field of the own class; in a static place only a static one is there
abbrev pub own_field_term : Ground → ℕ → FieldFace → Stamp → Term
own_field_term g at f s =
    if f.is_static then t.Static s (field_name g.class f)
    else (if g.is_static then t.Unknown s f.name no_terms else t.Field s (this_of g.class at) (field_name g.class f))

abbrev pub own_field_by : Ground → ℕ → FieldFace → Use → Bound
own_field_by g at f found = record { term = own_field_term g at f (used at at (Some f.ty) found); notes = field_notes at f.ty found }

-- an instance member has no place in a static one
abbrev pub is_out_of_place : Bool → Bool → Bool
is_out_of_place in_static is_static = in_static && not is_static

abbrev pub own_field : Ground → ℕ → FieldFace → Bound
own_field g at f = own_field_by g at f (use_of g.types (is_out_of_place g.is_static f.is_static) (Some f.ty))

-- ---- bare names

abbrev pub variable : Types → ℕ → Variable → Bound
variable types at v =
    record { term = t.Local (used at at (Some v.ty) (use_of types false (Some v.ty))) v.number; notes = consults v.ty }

abbrev pub meant : Ground → ℕ → Name → Meaning → Bound
meant g at name (IsVariable v) = variable g.types at v
meant g at name (IsField f) = own_field g at f
meant g at name IsHidden = unknown code.UnboundName at name
meant g at name IsFree = unknown code.UnboundName at name

abbrev pub meaning_of : Ground → Scope → Name → Meaning
meaning_of g scope name = meaning_in scope name (field_of g.types g.class name)

-- ---- before a dot

pub record Based : Type 0 where
  pub base : Before
  pub notes : List Note

-- a bare name that names nothing else is a type's
abbrev pub word_if_free : Meaning → PlainLexeme → Option PlainLexeme
word_if_free (IsVariable v) w = None
word_if_free (IsField f) w = None
word_if_free IsHidden w = None
word_if_free IsFree w = Some w

abbrev pub type_word : Ground → Scope → PlainExpr → Option PlainLexeme
type_word g scope (e.Name w) = word_if_free (meaning_of g scope w.text) w
type_word g scope _ = None

abbrev pub type_before : Types → ℕ → Name → Based
type_before types at name =
    if is_known_name types name then record { base = OnType name at; notes = Names name ∷ [] }
    else record { base = OnValue (t.Unknown (faulty at at) name no_terms); notes = Names name ∷ Finding code.UnboundName at ∷ [] }

abbrev pub value_before : Bound → Based
value_before b = record { base = OnValue b.term; notes = b.notes }

abbrev pub before_by : Types → Option PlainLexeme → Bound → Based
before_by types (Some w) b = type_before types (suc w.at) w.text
before_by types None b = value_before b

abbrev pub before : Ground → Scope → PlainExpr → Bound → Based
before g scope from b = before_by g.types (type_word g scope from) (fit g.types AnyValue (is_paren from) b)

-- ---- a field behind a dot

abbrev pub type_field_term : Name → NamedField → Stamp → Term
type_field_term name f s = if f.is_static then t.Static s f.named else t.Unknown s name no_terms

abbrev pub value_field_term : Term → Name → NamedField → Stamp → Term
value_field_term v name f s = if f.is_static then t.UnknownField s v name else t.Field s v f.named

abbrev pub field_term : Before → Name → NamedField → Stamp → Term
field_term (OnType c at) name f s = type_field_term name f s
field_term (OnValue v) name f s = value_field_term v name f s

abbrev pub no_field_term : Before → Name → Stamp → Term
no_field_term (OnType c at) name s = t.Unknown s name no_terms
no_field_term (OnValue v) name s = t.UnknownField s v name

abbrev pub field_use : Types → Before → NamedField → Use
field_use types b f = use_of types (is_misuse b f.is_static) (Some f.ty)

abbrev pub field_made : Types → Before → ℕ → Name → Option NamedField → Term
field_made types b at name None = no_field_term b name (faulty at (first_of b))
field_made types b at name (Some f) = field_term b name f (used at (first_of b) (Some f.ty) (field_use types b f))

abbrev pub field_told : Types → Before → ℕ → Option NamedField → List Note
field_told types b at None = found_if (not (is_lost b)) code.UnknownMember at
field_told types b at (Some f) = field_notes at f.ty (field_use types b f)

abbrev pub select_term : Types → Before → ℕ → Name → Term
select_term types b at name = field_made types b at name (field_named types (class_before b) name)

abbrev pub select_notes : Types → Before → ℕ → Name → List Note
select_notes types b at name = field_told types b at (field_named types (class_before b) name)

-- ---- calls

-- with an argument that is bad nothing more is found
abbrev pub call_use : Types → List Term → Bool → Option FaceTy → Use
call_use types args misused given = if any_bad args then usage.Unjudged else use_of types misused given

-- the finding of a name without meaning, unless something before it or in it is bad
abbrev pub unfound : Bool → List Term → FindingCode → ℕ → List Note
unfound lost args c at = found_if (not (lost || any_bad args)) c at

-- of the own class, by its bare name; in a static place there is no `this`
abbrev pub own_call_term : Ground → ℕ → NamedMethod → List Term → Stamp → Term
own_call_term g at m args s =
    if m.is_static || g.is_static then t.CallStatic s m.named (terms args) else t.Call s (this_of g.class at) m.named (terms args)

abbrev pub own_use : Ground → NamedMethod → List Term → Use
own_use g m args = call_use g.types args (is_out_of_place g.is_static m.is_static) m.result

abbrev pub own_method_term : Ground → ℕ → NamedMethod → List Term → Term
own_method_term g at m args = own_call_term g at m args (used at at m.result (own_use g m args))

abbrev pub own_method_notes : Ground → ℕ → NamedMethod → List Term → List Note
own_method_notes g at m args = use_notes at (own_use g m args)

abbrev pub own_call_made : Ground → ℕ → Name → Option NamedMethod → List Term → Term
own_call_made g at name None args = t.Unknown (faulty at at) name (terms args)
own_call_made g at name (Some m) args = own_method_term g at m args

abbrev pub own_call_notes : Ground → ℕ → Option NamedMethod → List Term → List Note
own_call_notes g at None args = unfound false args code.UnknownMember at
own_call_notes g at (Some m) args = own_method_notes g at m args

-- behind a dot
abbrev pub method_term : Before → MemberName → List Term → Stamp → Term
method_term (OnType c at) named args s = t.CallStatic s named (terms args)
method_term (OnValue v) named args s = t.Call s v named (terms args)

abbrev pub use_behind : Types → Before → NamedMethod → List Term → Use
use_behind types b m args = call_use types args (is_misuse b m.is_static) m.result

abbrev pub method_behind_term : Types → Before → ℕ → NamedMethod → List Term → Term
method_behind_term types b at m args = method_term b m.named args (used at (first_of b) m.result (use_behind types b m args))

abbrev pub method_behind_notes : Types → Before → ℕ → NamedMethod → List Term → List Note
method_behind_notes types b at m args = use_notes at (use_behind types b m args)

abbrev pub no_method_term : Before → Name → List Term → Stamp → Term
no_method_term (OnType c at) name args s = t.Unknown s name (terms args)
no_method_term (OnValue v) name args s = t.UnknownCall s v name (terms args)

abbrev pub no_method_behind : Before → ℕ → Name → List Term → Term
no_method_behind b at name args = no_method_term b name args (faulty at (first_of b))

abbrev pub no_method_notes : Before → ℕ → List Term → List Note
no_method_notes b at args = unfound (is_lost b) args code.UnknownMember at

abbrev pub call_made : Types → Before → ℕ → Name → Option NamedMethod → List Term → Term
call_made types b at name None args = no_method_behind b at name args
call_made types b at name (Some m) args = method_behind_term types b at m args

abbrev pub call_notes : Types → Before → ℕ → Option NamedMethod → List Term → List Note
call_notes types b at None args = no_method_notes b at args
call_notes types b at (Some m) args = method_behind_notes types b at m args

-- ---- `new`, `at` being the number of that word and `named` that of the name

abbrev pub object_term : ℕ → Name → List Term → Term
object_term at c args = t.New (unless_bad (any_bad args) at at (value.Named c)) c (terms args)

abbrev pub no_object_term : ℕ → Name → List Term → Term
no_object_term at c args = t.Unknown (faulty at at) c (terms args)

abbrev pub new_term : Types → ℕ → Name → ℕ → List Term → Term
new_term types at c n args =
    if is_known_name types c then (if is_made types c n then object_term at c args else no_object_term at c args) else no_object_term at c args

abbrev pub new_notes : Types → ℕ → Name → ℕ → List Term → List Note
new_notes types named c n args =
    if is_known_name types c then (if is_made types c n then [] else unfound false args code.UnknownMember named)
    else unfound false args code.UnknownType named

-- ---- operators

abbrev pub operand_type : UnaryOp → ValueType
operand_type unary.Not = value.Boolean
operand_type unary.Negate = value.Int

abbrev pub on_one : UnaryOp → ℕ → Term → Term
on_one op at v = t.Unary (unless_bad (is_bad v) at at (operand_type op)) op v

abbrev pub left_place : BinaryOp → Place
left_place operator.Or = Of face.Bool
left_place operator.And = Of face.Bool
left_place operator.Equal = AnyValue
left_place operator.NotEqual = AnyValue
left_place _ = Of face.Int

-- operands of `==` have to suit each other, and it is the second one that doesn't
abbrev pub beside : Option ValueType → Place
beside None = AnyValue
beside (Some v) = Beside (judged_type v)

abbrev pub right_place : BinaryOp → Option ValueType → Place
right_place operator.Equal ty = beside ty
right_place operator.NotEqual ty = beside ty
right_place op ty = left_place op

abbrev pub type_on_two : BinaryOp → ValueType
type_on_two operator.Add = value.Int
type_on_two operator.Subtract = value.Int
type_on_two operator.Multiply = value.Int
type_on_two operator.Divide = value.Int
type_on_two operator.Remainder = value.Int
type_on_two _ = value.Boolean

abbrev pub term_on_two : BinaryOp → Stamp → Term → Term → Term
term_on_two operator.Or s a b = t.Or s a b
term_on_two operator.And s a b = t.And s a b
term_on_two operator.Equal s a b = t.Binary s arithmetic.Equal a b
term_on_two operator.NotEqual s a b = t.Binary s arithmetic.NotEqual a b
term_on_two operator.Less s a b = t.Binary s arithmetic.Less a b
term_on_two operator.Greater s a b = t.Binary s arithmetic.Greater a b
term_on_two operator.AtMost s a b = t.Binary s arithmetic.AtMost a b
term_on_two operator.AtLeast s a b = t.Binary s arithmetic.AtLeast a b
term_on_two operator.Add s a b = t.Binary s arithmetic.Add a b
term_on_two operator.Subtract s a b = t.Binary s arithmetic.Subtract a b
term_on_two operator.Multiply s a b = t.Binary s arithmetic.Multiply a b
term_on_two operator.Divide s a b = t.Binary s arithmetic.Divide a b
term_on_two operator.Remainder s a b = t.Binary s arithmetic.Remainder a b

abbrev pub is_either_bad : Term → Term → Bool
is_either_bad a b = is_bad a || is_bad b

abbrev pub joined : BinaryOp → ℕ → Term → Term → Term
joined op at a b = term_on_two op (unless_bad (is_either_bad a b) at (stamp_of a).first (type_on_two op)) a b

abbrev pub on_two : Types → BinaryOp → ℕ → Term → Bool → Term → Term
on_two types op at a in_paren b = joined op at a (fit_term types (right_place op (stamp_of a).ty) in_paren b)

abbrev pub right_notes : Types → BinaryOp → Term → Term → List Note
right_notes types op a b = fit_notes types (right_place op (stamp_of a).ty) b

-- ---- expressions, of their parts

abbrev pub in_parens : ℕ → Bound → Bound
in_parens opening b = record { term = restamped (stamp_from opening) b.term; notes = b.notes }

abbrev pub selected : Types → Based → PlainLexeme → Bound
selected types b w = record { term = select_term types b.base (suc w.at) w.text; notes = b.notes ++ select_notes types b.base (suc w.at) w.text }

abbrev pub own_called : Ground → PlainLexeme → ℕ → Option NamedMethod → Bounds → Bound
own_called g w n m args = record {
  term = own_call_made g (suc w.at) w.text m args.terms;
  notes = method_notes n m ++ (args.notes ++ own_call_notes g (suc w.at) m args.terms);
}

abbrev pub called_on : Types → Based → PlainLexeme → ℕ → Option NamedMethod → Bounds → Bound
called_on types b w n m args = record {
  term = call_made types b.base (suc w.at) w.text m args.terms;
  notes = b.notes ++ (method_notes n m ++ (args.notes ++ call_notes types b.base (suc w.at) m args.terms));
}

abbrev pub newly_made : Types → ℕ → PlainLexeme → ℕ → Option MemberFace → Bounds → Bound
newly_made types at w n m args = record {
  term = new_term types at w.text n args.terms;
  notes = made_notes w.text n m ++ (args.notes ++ new_notes types (suc w.at) w.text n args.terms);
}

abbrev pub with_one : UnaryOp → ℕ → Bound → Bound
with_one op at b = record { term = on_one op at b.term; notes = b.notes }

abbrev pub with_two : Types → BinaryOp → ℕ → Bound → Bool → Bound → Bound
with_two types op at a in_paren b = record {
  term = on_two types op at a.term in_paren b.term;
  notes = a.notes ++ (b.notes ++ right_notes types op a.term b.term);
}

-- ---- expressions

unfoldable mutual
  -- by itself, whatever its place
  pub raw : Ground → Scope → PlainExpr → Bound
  raw g scope (e.Int w) = constant (suc w.at) value.Int (literal.Int (int_value w.text))
  raw g scope (e.Str w) = constant (suc w.at) string_type (literal.Str (string_value w.text))
  raw g scope (e.True at) = constant (suc at) value.Boolean (literal.Boolean true)
  raw g scope (e.False at) = constant (suc at) value.Boolean (literal.Boolean false)
  raw g scope (e.Null at) = constant (suc at) value.Null literal.Null
  raw g scope (e.This at) = this_at g (suc at)
  raw g scope (e.Name w) = meant g (suc w.at) w.text (meaning_of g scope w.text)
  raw g scope (e.Call w args closing) =
      let m = method_in g.types g.class w.text (count args) in own_called g w (count args) m (raw_all g scope (method_params m) args)
  raw g scope (e.New at w args closing) =
      let m = made_by g.types w.text (count args) in newly_made g.types (suc at) w (count args) m (raw_all g scope (maker_params m) args)
  raw g scope (e.Paren opening inside closing) = in_parens (suc opening) (raw g scope inside)
  raw g scope (e.Select from w) = selected g.types (before g scope from (raw g scope from)) w
  raw g scope (e.CallOn from w args closing) =
      let b = before g scope from (raw g scope from) in let m = method_named g.types (class_before b.base) w.text (count args)
      in called_on g.types b w (count args) m (raw_all g scope (method_params m) args)
  raw g scope (e.Not at operand) = with_one unary.Not (suc at) (fit g.types (Of face.Bool) (is_paren operand) (raw g scope operand))
  raw g scope (e.Neg at operand) = with_one unary.Negate (suc at) (fit g.types (Of face.Int) (is_paren operand) (raw g scope operand))
  raw g scope (e.Binary l op at r) = with_two g.types op (suc at) (fit g.types (left_place op) (is_paren l) (raw g scope l)) (is_paren r) (raw g scope r)

  -- arguments, each in the place of its parameter
  pub raw_all : Ground → Scope → List ParamFace → PlainExprs → Bounds
  raw_all g scope params e.no_exprs = record { terms = []; notes = [] }
  raw_all g scope params (e.expr a others) =
      before_others (fit g.types (argument_place params) (is_paren a) (raw g scope a)) (raw_all g scope (drop 1 params) others)

-- in its place
abbrev pub fitted : Ground → Scope → Place → PlainExpr → Bound
fitted g scope p x = fit g.types p (is_paren x) (raw g scope x)
