-- Assignments, steps and other actions without a finding are typed.
use Rattle.std.proofs.Common.{◌≡◌, ℕ, suc, refl, ap, sym, ◌∙◌, subst, Bool, true, false, if◌then◌else◌, List, ◌++◌, Option, Some, None}
use Rattle.bound_tree.proofs.Tests.{false-true}
use Rattle.class_faces.specs.declared.face.FaceTy.{FaceTy}
use Rattle.class_faces.specs.declared.face.FaceTy.TheVariants as face
use Rattle.class_faces.specs.declared.face.FieldFace.{FieldFace}
use Rattle.core_model.specs.declared.instr.Op.{Op}
use Rattle.core_model.specs.declared.instr.Op.TheVariants as arithmetic
use Rattle.result_records.specs.declared.code.FindingCode.{FindingCode}
use Rattle.result_records.specs.declared.code.FindingCode.TheVariants as code
use Rattle.java_tree.specs.declared.stmt.AssignOp.{AssignOp}
use Rattle.java_tree.specs.declared.stmt.AssignOp.TheVariants as sign
use Rattle.java_tree.specs.declared.stmt.StepOp.{StepOp}
use Rattle.java_tree.specs.declared.stmt.StepOp.TheVariants as step
use Rattle.tree_places.specs.PlainExpr.{PlainExpr, PlainLexeme}
use Rattle.tree_places.specs.PlainExpr as e
use Rattle.tree_places.specs.PlainStmt.{PlainAction}
use Rattle.tree_places.specs.PlainStmt as p
use Rattle.bound_tree.specs.declared.name.ValueType.{ValueType}
use Rattle.bound_tree.specs.declared.name.ValueType.TheVariants as value
use Rattle.bound_tree.specs.declared.tree.Stamp.{Stamp}
use Rattle.bound_tree.specs.declared.tree.Literal.TheVariants as literal
use Rattle.bound_tree.specs.Tree.{Term, stamp_of, no_terms}
use Rattle.bound_tree.specs.Tree as t
use Rattle.name_rules.specs.Types.{Name, Types, is_known}
use Rattle.name_rules.specs.Scopes.{Scope, Meaning, IsVariable, IsField, IsHidden, IsFree}
use Rattle.name_rules.specs.Places.{Place, Anywhere, Of, Started, use_of}
use Rattle.expression_binding.specs.Stamps.{restamped, spoilt_stamp, used, type_of}
use Rattle.expression_binding.specs.Before.{Before, OnType, OnValue}
use Rattle.expression_binding.specs.Fields.{NamedField, field_name}
use Rattle.expression_binding.specs.Bound.{Ground, Bound, fitted, spoilt_if, found_at, is_paren, raw, meant, meaning_of, this_of, field_made, before}
use Rattle.statement_binding.specs.Finals.{Written, blank_target, is_first_write}
use Rattle.statement_binding.specs.Writes.{asked_type, assigned_place, is_forbidden, target_if, write_notes, assigned, set, changed, int_value, step_op, one, by_sign, action, by_top_sign, top_action}
use Rattle.typed_units.specs.Frames.{Frame, type_in, declared_as, is_known_value, given_suits}
use Rattle.typed_units.specs.Terms.{TermTyped, binary_type}
use Rattle.typed_units.specs.Statements.{StatementTyped, IsTarget, SuitsGiven}
use Rattle.binding_types.specs.Silent.{Silent}
use Rattle.binding_types.specs.Grounds.{frame_on, GroundFits, ScopeFits}
use Rattle.binding_types.specs.Placed.{LocalsKnown}
use Rattle.binding_types.specs.Written.{IsWrittenTarget, ActionWritten}
use Rattle.binding_types.proofs.Silences.{first, second, unfound_if}
use Rattle.binding_types.proofs.Fitting.{SoundAt, of_suits, started_starts}
use Rattle.binding_types.proofs.Names.{constant_sound}
use Rattle.binding_types.proofs.Expressions.{fitted-sound}

-- ---- targets

-- a name or a field, with a meaning or without
abbrev pub MayTarget : Term → Type 0
MayTarget (t.Local s x) = Unit {0}
MayTarget (t.Field s b f) = Unit {0}
MayTarget (t.Static s f) = Unit {0}
MayTarget (t.Unknown s n es) = Unit {0}
MayTarget (t.UnknownField s b n) = Unit {0}
MayTarget _ = ⊥

own-may : (a b : Bool) (s z : Stamp) (c : Name) (x : FieldFace) (at : ℕ)
    → MayTarget (if a then t.Static s (field_name c x) else (if b then t.Unknown s x.name no_terms else t.Field s (this_of c at) (field_name c x)))
own-may true b s z c x at = tt
own-may false true s z c x at = tt
own-may false false s z c x at = tt

meant-may : (g : Ground) (at : ℕ) (name : Name) (m : Meaning) → MayTarget (meant g at name m).term
meant-may g at name (IsVariable v) = tt
meant-may g at name (IsField x) = own-may x.is_static g.is_static _ (used at at None (use_of g.types false None)) g.class x at
meant-may g at name IsHidden = tt
meant-may g at name IsFree = tt

type-may : (b : Bool) (s : Stamp) (name : Name) (f : NamedField) → MayTarget (if b then t.Static s f.named else t.Unknown s name no_terms)
type-may true s name f = tt
type-may false s name f = tt

value-may : (b : Bool) (s : Stamp) (v : Term) (name : Name) (f : NamedField) → MayTarget (if b then t.UnknownField s v name else t.Field s v f.named)
value-may true s v name f = tt
value-may false s v name f = tt

field-may : (types : Types) (b : Before) (at : ℕ) (name : Name) (o : Option NamedField) → MayTarget (field_made types b at name o)
field-may types (OnType c here) at name None = tt
field-may types (OnValue v) at name None = tt
field-may types (OnType c here) at name (Some f) = type-may f.is_static _ name f
field-may types (OnValue v) at name (Some f) = value-may f.is_static _ v name f

raw-may : (g : Ground) (scope : Scope) (x : PlainExpr) → IsWrittenTarget x → MayTarget (raw g scope x).term
unfolding raw
raw-may g scope (e.Name w) h = meant-may g (suc w.at) w.text (meaning_of g scope w.text)
raw-may g scope (e.Select from w) h = field-may g.types (before g scope from (raw g scope from)).base (suc w.at) w.text _
raw-may g scope (e.Int w) h = absurd h
raw-may g scope (e.Str w) h = absurd h
raw-may g scope (e.True at) h = absurd h
raw-may g scope (e.False at) h = absurd h
raw-may g scope (e.Null at) h = absurd h
raw-may g scope (e.This at) h = absurd h
raw-may g scope (e.Call w args closing) h = absurd h
raw-may g scope (e.New at w args closing) h = absurd h
raw-may g scope (e.Paren opening inside closing) h = absurd h
raw-may g scope (e.CallOn from w args closing) h = absurd h
raw-may g scope (e.Not at operand) h = absurd h
raw-may g scope (e.Neg at operand) h = absurd h
raw-may g scope (e.Binary l op at r) h = absurd h

restamped-may : (change : Stamp → Stamp) (v : Term) → MayTarget v → MayTarget (restamped change v)
restamped-may change (t.Const s l) h = h
restamped-may change (t.This s) h = h
restamped-may change (t.Local s x) h = h
restamped-may change (t.Field s b named) h = h
restamped-may change (t.Static s named) h = h
restamped-may change (t.New s c es) h = h
restamped-may change (t.Call s r m es) h = h
restamped-may change (t.CallStatic s m es) h = h
restamped-may change (t.Unknown s n es) h = h
restamped-may change (t.UnknownField s b n) h = h
restamped-may change (t.UnknownCall s r n es) h = h
restamped-may change (t.Unary s o a) h = h
restamped-may change (t.And s a b) h = h
restamped-may change (t.Or s a b) h = h
restamped-may change (t.Binary s o a b) h = h

spoilt-may : (o : Option FindingCode) (in_paren : Bool) (v : Term) → MayTarget v → MayTarget (spoilt_if o in_paren v)
spoilt-may None in_paren v h = h
spoilt-may (Some c) in_paren v h = restamped-may (spoilt_stamp in_paren) v h

-- a typed one is a target
is-target : (f : Frame) (v : Term) → MayTarget v → TermTyped f v → IsTarget v
is-target f (t.Const s l) h typed = h
is-target f (t.This s) h typed = h
is-target f (t.Local s x) h typed = tt
is-target f (t.Field s b named) h typed = tt
is-target f (t.Static s named) h typed = tt
is-target f (t.New s c es) h typed = h
is-target f (t.Call s r m es) h typed = h
is-target f (t.CallStatic s m es) h typed = h
is-target f (t.Unknown s n es) h typed = absurd typed
is-target f (t.UnknownField s b n) h typed = absurd typed
is-target f (t.UnknownCall s r n es) h typed = h
is-target f (t.Unary s o a) h typed = h
is-target f (t.And s a b) h typed = h
is-target f (t.Or s a b) h typed = h
is-target f (t.Binary s o a b) h typed = h

target_is : (g : Ground) (locals : List ValueType) (result : Option ValueType) (scope : Scope) (p : Place) (x : PlainExpr) → IsWrittenTarget x
    → TermTyped (frame_on g locals result) (fitted g scope p x).term → IsTarget (fitted g scope p x).term
target_is g locals result scope p x h typed =
    is-target (frame_on g locals result) (fitted g scope p x).term (spoilt-may (found_at g.types p (raw g scope x).term) (is_paren x) (raw g scope x).term (raw-may g scope x h)) typed

-- ---- the type of a target

pub declared_type : (ty : FaceTy) (types : Types) → is_known types ty ≡ true → is_known types (declared_as (type_of ty)) ≡ true
declared_type face.Int types h = refl
declared_type face.Bool types h = refl
declared_type face.Args types h = refl
declared_type (face.Named c) types h = h

-- it has one, and it is there
pub record TypeKnown (types : Types) (ty : Option ValueType) : Type 0 where
  pub own : ValueType
  pub is : ty ≡ Some own
  pub known : is_known_value types own ≡ true

target-type : (f : Frame) → LocalsKnown f.types f.locals → (v : Term) → IsTarget v → TermTyped f v → TypeKnown f.types (type_in v)
target-type f known (t.Const s l) h typed = absurd h
target-type f known (t.This s) h typed = absurd h
target-type f known (t.Local s x) h typed = record { own = typed.own; is = typed.is; known = known x typed.own typed.kept }
target-type f known (t.Field s b named) h typed = record { own = type_of typed.2.field.ty; is = typed.2.gives; known = declared_type typed.2.field.ty f.types typed.2.known }
target-type f known (t.Static s named) h typed = record { own = type_of typed.field.ty; is = typed.gives; known = declared_type typed.field.ty f.types typed.known }
target-type f known (t.New s c es) h typed = absurd h
target-type f known (t.Call s r m es) h typed = absurd h
target-type f known (t.CallStatic s m es) h typed = absurd h
target-type f known (t.Unknown s n es) h typed = absurd h
target-type f known (t.UnknownField s b n) h typed = absurd h
target-type f known (t.UnknownCall s r n es) h typed = absurd h
target-type f known (t.Unary s o a) h typed = absurd h
target-type f known (t.And s a b) h typed = absurd h
target-type f known (t.Or s a b) h typed = absurd h
target-type f known (t.Binary s o a b) h typed = absurd h

asked-same : (v : ValueType) → asked_type v ≡ declared_as v
asked-same value.Int = refl
asked-same value.Boolean = refl
asked-same value.Null = refl
asked-same (value.Named c) = refl

suits-given : (f : Frame) (ty : Option ValueType) (v : Term) → TypeKnown f.types ty → SoundAt f (assigned_place ty) v → SuitsGiven f.types v ty
suits-given f None v known sound = absurd (let e : None ≡ Some known.own = known.is in let h : ⊥ = cc in h)
suits-given f (Some w) v known sound =
    subst (λ (a : FaceTy). given_suits f.types (type_in v) a ≡ true) (asked-same w)
    (of_suits f.types (asked_type w) (type_in v) (ap (λ (a : FaceTy). is_known f.types a) (asked-same w) ∙ here) sound.fits)
  where
    same : known.own ≡ w
    same = let e : Some w ≡ Some known.own = known.is in cc

    here : is_known_value f.types w ≡ true
    here = subst (λ (k : ValueType). is_known_value f.types k ≡ true) same known.known

-- ---- assignments

target-stays : (forbidden : Bool) (to : Term) → forbidden ≡ false → target_if forbidden to ≡ to
target-stays true to h = false-true (sym h)
target-stays false to h = refl

pub assigned_typed : (f : Frame) (forbidden : Bool) (to v : Bound) → IsTarget to.term → TermTyped f to.term → TermTyped f v.term → SuitsGiven f.types v.term (type_in to.term)
    → Silent (write_notes forbidden to.term) → StatementTyped f (assigned forbidden to v).made
assigned_typed f forbidden to v is typed value_typed suits s =
    subst (λ (x : Term). StatementTyped f (t.Assign x v.term)) (sym (target-stays forbidden to.term (unfound_if forbidden code.FinalWrite (stamp_of to.term).at s))) (is, typed, value_typed, suits)

pub set_typed : (g : Ground) (locals : List ValueType) (result : Option ValueType) (scope : Scope) → GroundFits g locals → ScopeFits g.types locals scope → LocalsKnown g.types locals
    → (may : Bool) (target v : PlainExpr) → IsWrittenTarget target → Silent (set g scope may target v).notes → StatementTyped (frame_on g locals result) (set g scope may target v).made
set_typed g locals result scope fits names known may target v written s =
    let f = frame_on g locals result in
    let to = fitted g scope Anywhere target in
    let place = assigned_place (type_in to.term) in
    let value = fitted g scope place v in
    let x = fitted-sound g locals result scope fits names Anywhere target (first to.notes _ s) in
    let rest : Silent (value.notes ++ write_notes (is_forbidden g scope may target to.term) to.term) = second to.notes _ s in
    let y = fitted-sound g locals result scope fits names place v (first value.notes _ rest) in
    let is = target_is g locals result scope Anywhere target written x.sound.typed in
    assigned_typed f (is_forbidden g scope may target to.term) to value is x.sound.typed y.sound.typed
    (suits-given f (type_in to.term) value.term (target-type f known to.term is x.sound.typed) y) (second value.notes _ rest)

-- ---- compound assignments and steps

changed-typed : (g : Ground) (locals : List ValueType) (result : Option ValueType) (scope : Scope) → GroundFits g locals → ScopeFits g.types locals scope
    → (op : Op) → binary_type op ≡ value.Int → (target : PlainExpr) (v : Bound) → IsWrittenTarget target
    → (Silent v.notes → SoundAt (frame_on g locals result) (Of face.Int) v.term) → Silent (changed g scope op target v).notes → StatementTyped (frame_on g locals result) (changed g scope op target v).made
changed-typed g locals result scope fits names op is_int target v written sound s =
    let f = frame_on g locals result in
    let to = fitted g scope (Of face.Int) target in
    let x = fitted-sound g locals result scope fits names (Of face.Int) target (first to.notes _ s) in
    let rest : Silent (v.notes ++ write_notes (is_forbidden g scope false target to.term) to.term) = second to.notes _ s in
    let y = sound (first v.notes _ rest) in
    let forbidden = is_forbidden g scope false target to.term in
    subst (λ (z : Term). StatementTyped f (t.Compound z op v.term)) (sym (target-stays forbidden to.term (unfound_if forbidden code.FinalWrite (stamp_of to.term).at (second v.notes _ rest)))) (
      target_is g locals result scope (Of face.Int) target written x.sound.typed,
      x.sound.typed,
      of_suits g.types face.Int (type_in to.term) refl x.fits,
      y.sound.typed,
      of_suits g.types face.Int (type_in v.term) refl y.fits,
      is_int,
    )

step-int : (op : StepOp) → binary_type (step_op op) ≡ value.Int
step-int step.Increment = refl
step-int step.Decrement = refl

one-sound : (f : Frame) (at : ℕ) → SoundAt f (Of face.Int) (one at).term
one-sound f at = record { sound = constant_sound f at value.Int (literal.Int 1) refl; fits = refl }

by-sign-typed : (g : Ground) (locals : List ValueType) (result : Option ValueType) (scope : Scope) → GroundFits g locals → ScopeFits g.types locals scope → LocalsKnown g.types locals
    → (op : AssignOp) (target v : PlainExpr) → IsWrittenTarget target → Silent (by_sign g scope op target v).notes → StatementTyped (frame_on g locals result) (by_sign g scope op target v).made
by-sign-typed g locals result scope fits names known sign.Set target v written s = set_typed g locals result scope fits names known false target v written s
by-sign-typed g locals result scope fits names known sign.Add target v written s =
    changed-typed g locals result scope fits names arithmetic.Add refl target (int_value g scope v) written (fitted-sound g locals result scope fits names (Of face.Int) v) s
by-sign-typed g locals result scope fits names known sign.Subtract target v written s =
    changed-typed g locals result scope fits names arithmetic.Subtract refl target (int_value g scope v) written (fitted-sound g locals result scope fits names (Of face.Int) v) s

pub action_typed : (g : Ground) (locals : List ValueType) (result : Option ValueType) (scope : Scope) → GroundFits g locals → ScopeFits g.types locals scope → LocalsKnown g.types locals
    → (does : PlainAction) → ActionWritten does → Silent (action g scope does).notes → StatementTyped (frame_on g locals result) (action g scope does).made
action_typed g locals result scope fits names known (p.Assign target op at v) written s = by-sign-typed g locals result scope fits names known op target v written s
action_typed g locals result scope fits names known (p.StepAfter target op at) written s =
    changed-typed g locals result scope fits names (step_op op) (step-int op) target (one (suc at)) written (λ quiet. one-sound (frame_on g locals result) (suc at)) s
action_typed g locals result scope fits names known (p.StepBefore at op target) written s =
    changed-typed g locals result scope fits names (step_op op) (step-int op) target (one (suc at)) written (λ quiet. one-sound (frame_on g locals result) (suc at)) s
action_typed g locals result scope fits names known (p.Call call) written s = (fitted-sound g locals result scope fits names Anywhere call s).sound.typed
action_typed g locals result scope fits names known (p.New made) written s = (fitted-sound g locals result scope fits names Anywhere made s).sound.typed
action_typed g locals result scope fits names known (p.Start at v closing) written s =
    let x = fitted-sound g locals result scope fits names Started v s in
    (x.sound.typed, started_starts g.types (type_in (fitted g scope Started v).term) x.fits)

by-top-typed : (g : Ground) (locals : List ValueType) (result : Option ValueType) (scope : Scope) → GroundFits g locals → ScopeFits g.types locals scope → LocalsKnown g.types locals
    → (w : Written) (op : AssignOp) (target v : PlainExpr) → IsWrittenTarget target → Silent (by_top_sign g scope w op target v).notes → StatementTyped (frame_on g locals result) (by_top_sign g scope w op target v).made
by-top-typed g locals result scope fits names known w sign.Set target v written s =
    set_typed g locals result scope fits names known (is_first_write w (blank_target g scope target)) target v written s
by-top-typed g locals result scope fits names known w sign.Add target v written s = by-sign-typed g locals result scope fits names known sign.Add target v written s
by-top-typed g locals result scope fits names known w sign.Subtract target v written s = by-sign-typed g locals result scope fits names known sign.Subtract target v written s

pub top_action_typed : (g : Ground) (locals : List ValueType) (result : Option ValueType) (scope : Scope) → GroundFits g locals → ScopeFits g.types locals scope → LocalsKnown g.types locals
    → (w : Written) (does : PlainAction) → ActionWritten does → Silent (top_action g scope w does).notes → StatementTyped (frame_on g locals result) (top_action g scope w does).made
top_action_typed g locals result scope fits names known w (p.Assign target op at v) written s = by-top-typed g locals result scope fits names known w op target v written s
top_action_typed g locals result scope fits names known w (p.StepAfter target op at) written s = action_typed g locals result scope fits names known (p.StepAfter target op at) written s
top_action_typed g locals result scope fits names known w (p.StepBefore at op target) written s = action_typed g locals result scope fits names known (p.StepBefore at op target) written s
top_action_typed g locals result scope fits names known w (p.Call call) written s = action_typed g locals result scope fits names known (p.Call call) written s
top_action_typed g locals result scope fits names known w (p.New made) written s = action_typed g locals result scope fits names known (p.New made) written s
top_action_typed g locals result scope fits names known w (p.Start at v closing) written s = action_typed g locals result scope fits names known (p.Start at v closing) written s
