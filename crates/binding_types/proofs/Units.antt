-- Units that are bound with nothing found are typed.
use Rattle.std.proofs.Common.{◌≡◌, ℕ, suc, refl, ap, sym, ◌∙◌, subst, Bool, true, false, not, ◌&&◌, ◌||◌, if◌then◌else◌, List, [], ◌∷◌, ◌++◌, map, Option, Some, None, bytes_eq}
use Rattle.std.specs.Prelude.{codes}
use Rattle.std.specs.List.{AllByRecursion}
use Rattle.std.proofs.lemmas.Slice.Eq.{bytes_eq-Decides}
use Rattle.std.proofs.lemmas.List.{length-map}
use Rattle.bound_tree.proofs.Tests.{false-true}
use Rattle.desk_base.specs.declared.span.Span.{Span}
use Rattle.java_tree.specs.declared.file.ClassTree.{ClassTree}
use Rattle.java_tree.specs.declared.member.Init.{Init}
use Rattle.java_tree.specs.declared.member.Init.TheVariants as init
use Rattle.java_tree.specs.declared.member.MemberTree.{MemberTree}
use Rattle.java_tree.specs.declared.member.MemberTree.TheVariants as member
use Rattle.java_tree.specs.declared.token.Lexeme.{Lexeme}
use Rattle.class_faces.specs.declared.face.FaceTy.{FaceTy}
use Rattle.class_faces.specs.declared.face.FaceTy.TheVariants as face_ty_is
use Rattle.class_faces.specs.Assigned.{block_names}
use Rattle.class_faces.specs.Faces.{face_ty, field_face}
use Rattle.class_faces.specs.Keys.{key_with, member_key}
use Rattle.result_records.specs.declared.code.FindingCode.{FindingCode}
use Rattle.result_records.specs.declared.code.FindingCode.TheVariants as code
use Rattle.bound_tree.specs.declared.unit.Part.{Part}
use Rattle.bound_tree.specs.declared.unit.Part.TheVariants as part
use Rattle.tree_places.specs.Plain.{plain_ty}
use Rattle.tree_places.specs.Numbers.{number_of}
use Rattle.name_rules.specs.Types.{Name, Types, is_known, is_known_name, is_interface, is_declared, suits}
use Rattle.name_rules.specs.declared.note.Note.TheVariants.{Finding}
use Rattle.name_rules.specs.Places.{Of, misplaced, found_unless}
use Rattle.promise_marks.specs.declared.mark.Mark.{Mark}
use Rattle.expression_binding.specs.Stamps.{judged_type}
use Rattle.statement_binding.specs.DeclaredTypes.{declared_notes}
use Rattle.statement_binding.specs.Initials.{default, written, initial, initial_notes, type_of_init, finding_at}
use Rattle.bound_unit.specs.Names.{Faces}
use Rattle.bound_unit.specs.UnitFacts.{UnitFacts}
use Rattle.bound_unit.specs.Implemented.{is_among}
use Rattle.unit_rules.specs.Headers.{word_of}
use Rattle.unit_rules.specs.Implements.{implements_all, implemented_once, implemented_faults, bad_unless, implements_after}
use Rattle.unit_rules.specs.Shown.{types_shown}
use Rattle.views.specs.Face.{Seen, face}
use Rattle.binder.specs.Members.{method_code, constructor_code, part_made, repeated_notes, name_place}
use Rattle.binder.specs.Params.{result_notes}
use Rattle.binder.specs.Trees.{PlainBody, PlainPart, part_as, tree_as}
use Rattle.binder.specs.Trees as plain
use Rattle.binder.specs.Units.{bound_under, tokens_in}
use Rattle.typed_units.specs.Standing.{TypesStand}
use Rattle.typed_units.specs.Units.{PartTyped, IsImplemented, FieldTyped, MemberShown, SigTyped, initial_type}
use Rattle.binding_types.specs.Silent.{Silent}
use Rattle.binding_types.specs.Members.{MemberWritten, MemberSeen, UnitStands, UnitsTyped}
use Rattle.binding_types.proofs.Silences.{first, second, unfound_if, not-false, none_some}
use Rattle.binding_types.proofs.Codes.{PlainTyped, code_typed, main_typed}
use Rattle.binding_types.proofs.Heads.{faces_of, params_known, ty_known, args_known, face_given}

-- ---- parts as plain data

pub record PlainCode (types : Types) (class key : Name) (b : PlainBody) : Type 0 where
  pub member : MemberShown types class key b.is_static b.result
  pub body : PlainTyped types class member.face.params b

abbrev PlainPartTyped : Faces → (class key : Name) → PlainPart → Type 0
PlainPartTyped faces class key (plain.Header names) = AllByRecursion (IsImplemented faces class) names
PlainPartTyped faces class key (plain.Field ty i) = FieldTyped (types_shown faces) class key ty i
PlainPartTyped faces class key (plain.Sig params result) = SigTyped (types_shown faces) class key result
PlainPartTyped faces class key (plain.Body b) = PlainCode (types_shown faces) class key b

part-typed : (faces : Faces) (class key : Name) (p : Part) → PlainPartTyped faces class key (part_as p) → PartTyped faces class key p
part-typed faces class key (part.Header names) h = h
part-typed faces class key (part.Field ty i) h = h
part-typed faces class key (part.Sig params result) h = h
part-typed faces class key (part.Body b) h = record { member = h.member; body = record { known = h.body.known; code = h.body.code; set = h.body.set; returns = h.body.returns } }

-- ---- headers

once : (a b c : Bool) (at : ℕ) → Silent (bad_unless ((a && b) && c) at) → (b ≡ true) × (c ≡ true)
once true true true at s = (refl, refl)
once true true false at s = absurd s
once true false c at s = absurd s
once false b c at s = absurd s

implemented-by : (faces : Faces) (class : Name) (is_new : Bool) (name : Name) (at : ℕ) (k : Bool)
    → Silent (if k then bad_unless (implemented_once faces class is_new name) at else Finding code.UnknownType at ∷ [])
    → (is_interface (types_shown faces) name ≡ true) × (implements_all faces class name ≡ true)
implemented-by faces class is_new name at true s = once is_new (is_interface (types_shown faces) name) (implements_all faces class name) at s
implemented-by faces class is_new name at false s = absurd s

implements-typed : (faces : Faces) (number : Span → ℕ) (class : Name) (before : List Name) (ws : List Lexeme) → Silent (implements_after faces number class before ws)
    → AllByRecursion (IsImplemented faces class) (map (word_of number) ws)
implements-typed faces number class before [] s = tt
implements-typed faces number class before (w ∷ ws) s =
    let here = implemented-by faces class (not (is_among before w.text)) w.text (suc (number w.span)) (is_known_name (types_shown faces) w.text)
    (first (implemented_faults faces class (not (is_among before w.text)) w.text (suc (number w.span))) _ s) in (
      record { interface = here.0; answered = here.1 },
      implements-typed faces number class (before ++ w.text ∷ []) ws (second (implemented_faults faces class (not (is_among before w.text)) w.text (suc (number w.span))) _ s),
    )

-- ---- fields

default-suits : (types : Types) (ty : FaceTy) → suits types (judged_type (initial_type (default ty))) ty ≡ true
default-suits types face_ty_is.Int = refl
default-suits types face_ty_is.Bool = refl
default-suits types face_ty_is.Args = refl
default-suits types (face_ty_is.Named c) = refl

init-type : (i : Init) → judged_type (initial_type (written i)) ≡ type_of_init i
init-type (init.Int w) = refl
init-type (init.MinusInt at w) = refl
init-type (init.True at) = refl
init-type (init.False at) = refl
init-type (init.Null at) = refl
init-type (init.Str w) = refl
init-type (init.NewObject at) = refl

no-code : (o : Option FindingCode) (at : ℕ) → Silent (finding_at o at) → o ≡ None
no-code None at s = refl
no-code (Some c) at s = absurd s

value-suits : (k b : Bool) (c : FindingCode) → k ≡ true → found_unless (not k || b) c ≡ None → b ≡ true
value-suits true true c known e = refl
value-suits true false c known e = none_some c (sym e)
value-suits false b c known e = false-true known

initial-suits : (types : Types) (number : Span → ℕ) (ty : FaceTy) (o : Option Init) → is_known types ty ≡ true → Silent (initial_notes types number ty o)
    → suits types (judged_type (initial_type (initial ty o))) ty ≡ true
initial-suits types number ty None known s = default-suits types ty
initial-suits types number ty (Some i) known s =
    ap (λ v. suits types v ty) (init-type i) ∙ value-suits (is_known types ty) (suits types (type_of_init i) ty) _ known (no-code (misplaced types (Of ty) (Some (type_of_init i))) _ s)

unrepeated : (number : Span → ℕ) (class : Name) (m : MemberTree) (key : List ℕ) → Silent (repeated_notes number class m key) → key ≡ key_with class m 1
unrepeated number class m key s =
    (bytes_eq-Decides key (key_with class m 1)).0 (not-false (bytes_eq key (key_with class m 1)) (unfound_if (not (bytes_eq key (key_with class m 1))) code.RepeatedMember (suc (number (name_place m))) s))

-- ---- members

member-typed : (faces : Faces) (number : Span → ℕ) (class key : Name) (m : MemberTree) → TypesStand (types_shown faces) → is_declared (types_shown faces) class ≡ true
    → MemberWritten m → MemberSeen (types_shown faces) class key m → key ≡ key_with class m 1 → Silent (part_made faces number class m).notes
    → PlainPartTyped faces class key (part_made faces number class m).part
member-typed faces number class key (member.Field f) stand own written seen keyed s =
    let known = ty_known (types_shown faces) number f.ty (first (declared_notes (types_shown faces) (plain_ty number f.ty)) _ s) in
    record {
      field = field_face f;
      keyed = keyed;
      shown = seen keyed;
      typed = refl;
      known = known;
      suiting = initial-suits (types_shown faces) number (face_ty f.ty) f.init known (second (declared_notes (types_shown faces) (plain_ty number f.ty)) _ s);
    }
member-typed faces number class key (member.Method m) stand own written seen keyed s = record {
  member = record { face = _; name = m.name.text; keyed = keyed ∙ ap (λ (k : ℕ). member_key class m.name.text (Some k) 1) (sym (length-map m.params _)); shown = seen; kind = refl; gives = face_given m.result };
  body = code_typed faces number class (method_code m) (block_names m.body) stand own (λ e. false-true e) written s;
}
member-typed faces number class key (member.Sig x) stand own written seen keyed s = record {
  member = record { face = _; name = x.name.text; keyed = keyed ∙ ap (λ (k : ℕ). member_key class x.name.text (Some k) 1) (sym (length-map x.params _)); shown = seen; kind = written; gives = face_given x.result };
  known = args_known (types_shown faces) class false (faces_of [] x.params) own
      (params_known (types_shown faces) number [] 1 [] x.params (second (result_notes (types_shown faces) number x.result) _ s));
}
member-typed faces number class key (member.Ctor c) stand own written seen keyed s = record {
  member = record { face = _; name = codes "new"; keyed = keyed ∙ ap (λ (k : ℕ). member_key class (codes "new") (Some k) 1) (sym (length-map c.params _)); shown = seen; kind = refl; gives = refl };
  body = code_typed faces number class (constructor_code c) (block_names c.body) stand own (λ e. refl) written s;
}
member-typed faces number class key (member.Main m) stand own written seen keyed s = record {
  member = record { face = _; name = codes "main"; keyed = keyed; shown = seen; kind = refl; gives = refl };
  body = main_typed faces number class m stand written s;
}

-- ---- units

unit-typed : (class : ClassTree) (m : Option MemberTree) (key : List ℕ) (seen : Seen) (marks : List Mark) → Silent (bound_under class m key seen marks).notes
    → TypesStand (types_shown (face seen)) → is_declared (types_shown (face seen)) class.name.text ≡ true → UnitStands (types_shown (face seen)) class.name.text key m
    → PlainPartTyped (face seen) class.name.text key (bound_under class m key seen marks).tree.part
unit-typed class None key seen marks s stand own h =
    implements-typed (face seen) (number_of (tokens_in class None)) class.name.text [] class.implements (first (implements_after (face seen) (number_of (tokens_in class None)) class.name.text [] class.implements) _ s)
unit-typed class (Some m) key seen marks s stand own h =
    let number = number_of (tokens_in class (Some m)) in
    member-typed (face seen) number class.name.text key m stand own h.0 h.1 (unrepeated number class.name.text m key (first (repeated_notes number class.name.text m key) _ s))
    (second (repeated_notes number class.name.text m key) _ s)

class-kept : (class : ClassTree) (m : Option MemberTree) (key : List ℕ) (seen : Seen) (marks : List Mark) → (bound_under class m key seen marks).tree.class ≡ class.name.text
class-kept class None key seen marks = refl
class-kept class (Some m) key seen marks = refl

pub units-typed : UnitsTyped
units-typed class m key seen u b s stand own h = record {
  own = ap (is_declared (types_shown (face seen))) class_is ∙ own;
  part = part-typed (face seen) u.tree.class u.key u.tree.part
      (subst (λ (c : Name). PlainPartTyped (face seen) c u.key (part_as u.tree.part)) (sym class_is)
      (subst (λ (k : Name). PlainPartTyped (face seen) class.name.text k (part_as u.tree.part)) (sym key_is)
      (subst (PlainPartTyped (face seen) class.name.text key) (sym part_is) (unit-typed class m key seen b.marks s stand own h))));
}
  where
    class_is : u.tree.class ≡ class.name.text
    class_is = ap (λ (t : plain.PlainTree). t.class) b.is.tree ∙ class-kept class m key seen b.marks

    key_is : u.key ≡ key
    key_is = ap (λ (x : UnitFacts). x.key) b.is.is

    part_is : part_as u.tree.part ≡ (bound_under class m key seen b.marks).tree.part
    part_is = ap (λ (t : plain.PlainTree). t.part) b.is.tree
