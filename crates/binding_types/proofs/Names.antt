-- `this`, bare names and fields behind a dot, without a finding.
use Rattle.std.proofs.Common.{◌≡◌, ℕ, suc, refl, ap, sym, ◌∙◌, subst, Bool, true, false, ◌&&◌, not, if◌then◌else◌, List, [], ◌∷◌, Option, Some, None, bytes_eq}
use Rattle.std.specs.Prelude.{codes}
use Rattle.std.specs.List.{slice_get}
use Rattle.bound_tree.proofs.Tests.{false-true}
use Rattle.class_faces.specs.declared.face.FieldFace.{FieldFace}
use Rattle.result_records.specs.declared.code.FindingCode.TheVariants as code
use Rattle.tree_places.specs.PlainExpr.{PlainLexeme}
use Rattle.bound_tree.specs.declared.name.ValueType.{ValueType}
use Rattle.bound_tree.specs.declared.name.ValueType.TheVariants as value
use Rattle.bound_tree.specs.declared.tree.Literal.{Literal}
use Rattle.bound_tree.specs.declared.tree.Stamp.{Stamp}
use Rattle.bound_tree.specs.Tree.{Term, stamp_of, is_bad, no_terms}
use Rattle.bound_tree.specs.Tree as t
use Rattle.name_rules.specs.declared.uses.Use.{Use}
use Rattle.name_rules.specs.declared.uses.Use.TheVariants as usage
use Rattle.name_rules.specs.declared.scope.Entry.{Entry}
use Rattle.name_rules.specs.declared.scope.Variable.{Variable}
use Rattle.name_rules.specs.declared.note.Note.TheVariants.{Finding, Names}
use Rattle.name_rules.specs.Types.{Name, Types, field_of, is_known, is_known_name}
use Rattle.name_rules.specs.Notes.{consults, found_if}
use Rattle.name_rules.specs.Scopes.{Scope, Meaning, IsVariable, IsField, IsHidden, IsFree, entry_of, meaning_by, variable_meaning}
use Rattle.name_rules.specs.Places.{AnyValue, use_of, judged}
use Rattle.expression_binding.specs.Stamps.{used, type_of, sound, faulty}
use Rattle.expression_binding.specs.Before.{Before, OnType, OnValue, first_of, is_lost, is_misuse, class_before, class_of, class_of_value}
use Rattle.expression_binding.specs.Fields.{field_name, named_field, face_field, field_named}
use Rattle.expression_binding.specs.Bound.{Ground, Bound, Based, constant, unknown, this_of, this_at, is_out_of_place, own_field, own_field_term, variable, meant, meaning_of, fit, before_by, field_term, field_made, field_told, select_term, select_notes}
use Rattle.typed_units.specs.Frames.{Frame, type_in}
use Rattle.typed_units.specs.Named as named
use Rattle.typed_units.specs.Standing.{TypesStand}
use Rattle.typed_units.specs.Terms.{TermTyped, literal_type}
use Rattle.binding_types.specs.Silent.{Silent}
use Rattle.binding_types.specs.Grounds.{frame_on, GroundFits, VariableFits, NameFits, EntryFits, ScopeFits}
use Rattle.binding_types.proofs.Silences.{second, unfound_if, not-false, none_some, same_some}
use Rattle.binding_types.proofs.Lookups.{find-all, found_field_known, found_field_name}
use Rattle.binding_types.proofs.Uses.{IsUsed, use_used}
use Rattle.binding_types.proofs.Fitting.{Sound, SoundAt, bound_fits}

-- ---- literals and `this`

pub constant_sound : (f : Frame) (at : ℕ) (ty : ValueType) (l : Literal) → ty ≡ literal_type l → Sound f (constant at ty l).term
constant_sound f at ty l same = record { typed = ap (λ (v : ValueType). Some v) same; fine = refl }

pub this_sound : (f : Frame) (c : Name) (at : ℕ) → slice_get f.locals 0 ≡ Some (value.Named c) → Sound f (this_of c at)
this_sound f c at kept = record { typed = record { own = value.Named c; is = refl; kept = kept }; fine = refl }

this-by : (f : Frame) (c : Name) (at : ℕ) (b : Bool) → (b ≡ false → slice_get f.locals 0 ≡ Some (value.Named c))
    → Silent (if b then unknown code.StaticUse at (codes "this") else record { term = this_of c at; notes = [] }).notes
    → Sound f (if b then unknown code.StaticUse at (codes "this") else record { term = this_of c at; notes = [] }).term
this-by f c at true kept s = absurd s
this-by f c at false kept s = this_sound f c at (kept refl)

pub this_at_sound : (g : Ground) (locals : List ValueType) (result : Option ValueType) → GroundFits g locals → (at : ℕ) → Silent (this_at g at).notes
    → Sound (frame_on g locals result) (this_at g at).term
this_at_sound g locals result fits at s = this-by (frame_on g locals result) g.class at g.is_static fits.this s

-- ---- variables

pub variable_sound : (f : Frame) (at : ℕ) (v : Variable) → VariableFits f.types f.locals v → Sound f (variable f.types at v).term
variable_sound f at v fits =
    subst (λ (k : Bool). Sound f (t.Local (used at at (Some v.ty) (if k then judged false else usage.Unjudged)) v.number)) (sym fits.known)
    (record { typed = record { own = type_of v.ty; is = refl; kept = fits.kept }; fine = refl })

-- ---- fields of the own class

pub is_field : (types : Types) (c : Name) (x : FieldFace) (b : Bool) → field_of types c x.name ≡ Some x → x.is_static ≡ b → is_known types x.ty ≡ true
    → named.IsField types b (field_name c x) (Some (type_of x.ty))
is_field types c x b found kind known = record { field = x; found = found; is = refl; kind = kind; gives = refl; known = known }

own-by : (g : Ground) (locals : List ValueType) (result : Option ValueType) → GroundFits g locals → (at : ℕ) (x : FieldFace) → field_of g.types g.class x.name ≡ Some x → is_known g.types x.ty ≡ true
    → (a b : Bool) → x.is_static ≡ a → (b ≡ false → slice_get locals 0 ≡ Some (value.Named g.class)) → (b && not a) ≡ false
    → Sound (frame_on g locals result) (if a then t.Static (sound at at (Some (type_of x.ty))) (field_name g.class x)
    else (if b then t.Unknown (sound at at (Some (type_of x.ty))) x.name no_terms else t.Field (sound at at (Some (type_of x.ty))) (this_of g.class at) (field_name g.class x)))
own-by g locals result fits at x found known true b kind this placed = record { typed = is_field g.types g.class x true found kind known; fine = refl }
own-by g locals result fits at x found known false true kind this placed = false-true (sym placed)
own-by g locals result fits at x found known false false kind this placed = record {
  typed = ((this_sound (frame_on g locals result) g.class at (this refl)).typed, refl, is_field g.types g.class x false found kind known);
  fine = refl;
}

pub own_field_sound : (g : Ground) (locals : List ValueType) (result : Option ValueType) → GroundFits g locals → (at : ℕ) (x : FieldFace) → field_of g.types g.class x.name ≡ Some x
    → Silent (own_field g at x).notes → Sound (frame_on g locals result) (own_field g at x).term
own_field_sound g locals result fits at x found s =
    subst (λ (u : Use). Sound (frame_on g locals result) (own_field_term g at x (used at at (Some x.ty) u))) (sym is.is)
    (own-by g locals result fits at x found known x.is_static g.is_static refl fits.this is.placed)
  where
    known : is_known g.types x.ty ≡ true
    known = found_field_known g.types fits.stand g.class x.name x found

    is : IsUsed (is_out_of_place g.is_static x.is_static) (use_of g.types (is_out_of_place g.is_static x.is_static) (Some x.ty))
    is = use_used g.types at (is_out_of_place g.is_static x.is_static) (Some x.ty) known (second (consults x.ty) _ s)

-- ---- bare names

abbrev pub MeaningFits : Types → Name → List ValueType → Meaning → Type 0
MeaningFits types c locals (IsVariable v) = VariableFits types locals v
MeaningFits types c locals (IsField x) = field_of types c x.name ≡ Some x
MeaningFits types c locals IsHidden = Unit {0}
MeaningFits types c locals IsFree = Unit {0}

variable-fits : (types : Types) (c : Name) (locals : List ValueType) (v : Option Variable) → NameFits types locals v → MeaningFits types c locals (variable_meaning v)
variable-fits types c locals None fits = tt
variable-fits types c locals (Some v) fits = fits

meaning-fits : (types : Types) (c : Name) (locals : List ValueType) (scope : Scope) (name : Name) → ScopeFits types locals scope
    → (e : Option Entry) → entry_of scope name ≡ e → (x : Option FieldFace) → field_of types c name ≡ x → MeaningFits types c locals (meaning_by e x)
meaning-fits types c locals scope name fits (Some e) in_scope x found =
    variable-fits types c locals e.variable (find-all (EntryFits types locals) (λ (i : Entry). bytes_eq i.name name) scope e fits in_scope)
meaning-fits types c locals scope name fits None in_scope None found = tt
meaning-fits types c locals scope name fits None in_scope (Some x) found = ap (field_of types c) (found_field_name types c name x found) ∙ found

pub meaning_fits : (g : Ground) (locals : List ValueType) (scope : Scope) (name : Name) → ScopeFits g.types locals scope → MeaningFits g.types g.class locals (meaning_of g scope name)
meaning_fits g locals scope name fits = meaning-fits g.types g.class locals scope name fits (entry_of scope name) refl (field_of g.types g.class name) refl

pub meant_sound : (g : Ground) (locals : List ValueType) (result : Option ValueType) → GroundFits g locals → (at : ℕ) (name : Name) (m : Meaning) → MeaningFits g.types g.class locals m
    → Silent (meant g at name m).notes → Sound (frame_on g locals result) (meant g at name m).term
meant_sound g locals result fits at name (IsVariable v) m s = variable_sound (frame_on g locals result) at v m
meant_sound g locals result fits at name (IsField x) m s = own_field_sound g locals result fits at x m s
meant_sound g locals result fits at name IsHidden m s = absurd s
meant_sound g locals result fits at name IsFree m s = absurd s

-- ---- before a dot

abbrev pub BaseSound : Frame → Before → Type 0
BaseSound f (OnType c at) = Unit {0}
BaseSound f (OnValue v) = SoundAt f AnyValue v

abbrev based_if : Bool → ℕ → Name → Based
based_if b at name =
    if b then record { base = OnType name at; notes = Names name ∷ [] }
    else record { base = OnValue (t.Unknown (faulty at at) name no_terms); notes = Names name ∷ Finding code.UnboundName at ∷ [] }

type-base : (f : Frame) (at : ℕ) (name : Name) (b : Bool) → Silent (based_if b at name).notes → BaseSound f (based_if b at name).base
type-base f at name true s = tt
type-base f at name false s = absurd s

pub base_sound : (f : Frame) (w : Option PlainLexeme) (in_paren : Bool) (b : Bound) → (Silent b.notes → Sound f b.term)
    → Silent (before_by f.types w (fit f.types AnyValue in_paren b)).notes → BaseSound f (before_by f.types w (fit f.types AnyValue in_paren b)).base
base_sound f (Some w) in_paren b sound s = type-base f (suc w.at) w.text (is_known_name f.types w.text) s
base_sound f None in_paren b sound s = bound_fits f AnyValue in_paren b sound s

pub base_kept : (f : Frame) (b : Before) → BaseSound f b → is_lost b ≡ false
base_kept f (OnType c at) sound = refl
base_kept f (OnValue v) sound = sound.sound.fine

-- ---- the class before a dot

class-named : (o : Option ValueType) (c : Name) → class_of o ≡ Some c → o ≡ Some (value.Named c)
class-named None c e = none_some c e
class-named (Some value.Int) c e = none_some c e
class-named (Some value.Boolean) c e = none_some c e
class-named (Some value.Null) c e = none_some c e
class-named (Some (value.Named d)) c e = ap (λ (n : Name). Some (value.Named n)) (same_some d c e)

class-if : (b : Bool) (o : Option ValueType) (c : Name) → (if b then None else class_of o) ≡ Some c → o ≡ Some (value.Named c)
class-if true o c e = none_some c e
class-if false o c e = class-named o c e

pub value_class : (v : Term) (c : Name) → class_of_value v ≡ Some c → type_in v ≡ Some (value.Named c)
value_class v c e = class-if (is_bad v) (stamp_of v).ty c e

-- ---- fields behind a dot

behind-type : (f : Frame) (name c : Name) (x : FieldFace) (s : Stamp) (b : Bool) → s ≡ sound s.at s.first (Some (type_of x.ty)) → field_of f.types c x.name ≡ Some x → is_known f.types x.ty ≡ true
    → x.is_static ≡ b → not b ≡ false → Sound f (if b then t.Static s (field_name c x) else t.Unknown s name no_terms)
behind-type f name c x s true stamp found known kind placed = subst (λ (z : Stamp). Sound f (t.Static z (field_name c x))) (sym stamp)
    (record { typed = is_field f.types c x true found kind known; fine = refl })
behind-type f name c x s false stamp found known kind placed = false-true (sym placed)

behind-value : (f : Frame) (v : Term) (name c : Name) (x : FieldFace) (s : Stamp) (b : Bool) → s ≡ sound s.at s.first (Some (type_of x.ty)) → field_of f.types c x.name ≡ Some x → is_known f.types x.ty ≡ true
    → x.is_static ≡ b → b ≡ false → TermTyped f v → type_in v ≡ Some (value.Named c) → Sound f (if b then t.UnknownField s v name else t.Field s v (field_name c x))
behind-value f v name c x s true stamp found known kind placed typed class = false-true (sym placed)
behind-value f v name c x s false stamp found known kind placed typed class = subst (λ (z : Stamp). Sound f (t.Field z v (field_name c x))) (sym stamp)
    (record { typed = (typed, class, is_field f.types c x false found kind known); fine = refl })

behind-by : (f : Frame) (b : Before) → BaseSound f b → (at : ℕ) (name c : Name) (x : FieldFace) → class_before b ≡ Some c → field_of f.types c x.name ≡ Some x → is_known f.types x.ty ≡ true
    → is_misuse b x.is_static ≡ false → Sound f (field_term b name (named_field c x) (sound at (first_of b) (Some (type_of x.ty))))
behind-by f (OnType k here) base at name c x class found known placed = behind-type f name c x (sound at here (Some (type_of x.ty))) x.is_static refl found known refl placed
behind-by f (OnValue v) base at name c x class found known placed =
    behind-value f v name c x (sound at (stamp_of v).first (Some (type_of x.ty))) x.is_static refl found known refl placed base.sound.typed (value_class v c class)

some-field : (f : Frame) (b : Before) → BaseSound f b → (at : ℕ) (name c : Name) (x : FieldFace) → class_before b ≡ Some c → field_of f.types c x.name ≡ Some x → is_known f.types x.ty ≡ true
    → Silent (field_told f.types b at (Some (named_field c x))) → Sound f (field_made f.types b at name (Some (named_field c x)))
some-field f b base at name c x class found known s =
    subst (λ (u : Use). Sound f (field_term b name (named_field c x) (used at (first_of b) (Some x.ty) u))) (sym is.is) (behind-by f b base at name c x class found known is.placed)
  where
    is : IsUsed (is_misuse b x.is_static) (use_of f.types (is_misuse b x.is_static) (Some x.ty))
    is = use_used f.types at (is_misuse b x.is_static) (Some x.ty) known (second (consults x.ty) _ s)

no-field : (f : Frame) (b : Before) → BaseSound f b → (at : ℕ) {A : Type 0} → Silent (found_if (not (is_lost b)) code.UnknownMember at) → A
no-field f b base at s = false-true (sym (base_kept f b base) ∙ not-false (is_lost b) (unfound_if (not (is_lost b)) code.UnknownMember at s))

pub select_sound : (f : Frame) → TypesStand f.types → (b : Before) → BaseSound f b → (at : ℕ) (name : Name) → Silent (select_notes f.types b at name) → Sound f (select_term f.types b at name)
select_sound f stand b base at name s = go (class_before b) refl s
  where
    in-class : (c : Name) → class_before b ≡ Some c → (o : Option FieldFace) → field_of f.types c name ≡ o → Silent (field_told f.types b at (face_field c o)) → Sound f (field_made f.types b at name (face_field c o))
    in-class c class None found s = no-field f b base at s
    in-class c class (Some x) found s = some-field f b base at name c x class
        (ap (field_of f.types c) (found_field_name f.types c name x found) ∙ found) (found_field_known f.types stand c name x found) s

    go : (k : Option Name) → class_before b ≡ k → Silent (field_told f.types b at (field_named f.types k name)) → Sound f (field_made f.types b at name (field_named f.types k name))
    go None class s = no-field f b base at s
    go (Some c) class s = in-class c class (field_of f.types c name) refl s
