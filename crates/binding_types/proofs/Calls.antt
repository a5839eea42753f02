-- Arguments, calls and `new`, without a finding.
use Rattle.std.proofs.Common.{◌≡◌, ℕ, suc, refl, ap, sym, ◌∙◌, subst, add-one, Bool, true, false, ◌&&◌, ◌||◌, not, if◌then◌else◌, List, [], ◌∷◌, length, Option, Some, None}
use Rattle.std.specs.List.{slice_get}
use Rattle.std.specs.Cmp.{unsigned_Decides}
use Rattle.bound_tree.proofs.Tests.{false-true}
use Rattle.class_faces.specs.declared.face.FaceTy.{FaceTy}
use Rattle.class_faces.specs.declared.face.ParamFace.{ParamFace}
use Rattle.result_records.specs.declared.code.FindingCode.{FindingCode}
use Rattle.result_records.specs.declared.code.FindingCode.TheVariants as code
use Rattle.bound_tree.specs.declared.name.ValueType.{ValueType}
use Rattle.bound_tree.specs.declared.name.ValueType.TheVariants as value
use Rattle.bound_tree.specs.Tree.{Term, stamp_of, is_bad}
use Rattle.bound_tree.specs.Tree as t
use Rattle.bound_tree.specs.Reading.{terms}
use Rattle.lowering.specs.Lower as lower
use Rattle.name_rules.specs.declared.uses.Use.{Use}
use Rattle.name_rules.specs.declared.uses.Use.TheVariants as usage
use Rattle.name_rules.specs.Types.{Name, Types, is_known_name}
use Rattle.name_rules.specs.Places.{Of, use_of, use_notes}
use Rattle.expression_binding.specs.Stamps.{used, type_given, sound, unless_bad}
use Rattle.expression_binding.specs.Before.{Before, OnType, OnValue, first_of, is_lost, is_misuse, class_before}
use Rattle.expression_binding.specs.Methods.{NamedMethod, method_in, method_named, made_by, maker, maker_params, is_made, is_makeable}
use Rattle.expression_binding.specs.Bound.{Ground, any_bad, this_of, is_out_of_place, call_use, use_behind, method_term, method_behind_term, method_behind_notes, call_made, call_notes, own_use, own_call_term, own_call_made, own_call_notes, unfound, object_term, no_object_term, new_term, new_notes}
use Rattle.typed_units.specs.Frames.{Frame, type_in}
use Rattle.typed_units.specs.Named.{IsMethod, is_known_result}
use Rattle.typed_units.specs.Terms.{TermTyped, TermsTyped}
use Rattle.typed_units.specs.Standing.{TypesStand, IsKnownParam}
use Rattle.binding_types.specs.Silent.{Silent}
use Rattle.binding_types.specs.Grounds.{frame_on, GroundFits}
use Rattle.binding_types.proofs.Silences.{unfound_if, not-false, and-second, or-fails, none_some}
use Rattle.binding_types.proofs.Lookups.{MethodStands, method_stands}
use Rattle.binding_types.proofs.Uses.{IsUsed, use_used}
use Rattle.binding_types.proofs.Fitting.{Sound, SoundAt, of_suits}
use Rattle.binding_types.proofs.Names.{BaseSound, base_kept, this_sound, value_class}

-- ---- arguments

-- none is bad; they are as many as are written, and suit the parameters where these are as many
pub record ArgsSound (f : Frame) (params : List ParamFace) (n : ℕ) (args : List Term) : Type 0 where
  pub fine : any_bad args ≡ false
  pub counted : lower.count (terms args) ≡ n
  pub typed : length params ≡ n → TermsTyped f params (terms args)

pub no_args : (f : Frame) (params : List ParamFace) → ArgsSound f params 0 []
no_args f params = record { fine = refl; counted = refl; typed = empty params }
  where
    empty : (ps : List ParamFace) → length ps ≡ 0 → ps ≡ []
    empty [] e = refl
    empty (p ∷ ps) e = absurd (cc)

-- one more, in the place of the first parameter that is left
pub first_arg : (f : Frame) (p : ParamFace) (ps : List ParamFace) (n : ℕ) (v : Term) (vs : List Term) → IsKnownParam f.types p
    → SoundAt f (Of p.ty) v → ArgsSound f ps n vs → ArgsSound f (p ∷ ps) (suc n) (v ∷ vs)
first_arg f p ps n v vs known arg rest = record {
  fine = or-fails (is_bad v) (any_bad vs) arg.sound.fine rest.fine;
  counted = add-one (lower.count (terms vs)) ∙ ap suc rest.counted;
  typed = λ e. (p, ps, refl, arg.sound.typed, of_suits f.types p.ty (type_in v) known arg.fits, rest.typed (let same : length ps ≡ n = cc in same));
}

-- one without a parameter
pub more_arg : (f : Frame) (n : ℕ) (v : Term) (vs : List Term) → Sound f v → ArgsSound f [] n vs → ArgsSound f [] (suc n) (v ∷ vs)
more_arg f n v vs arg rest = record {
  fine = or-fails (is_bad v) (any_bad vs) arg.fine rest.fine;
  counted = add-one (lower.count (terms vs)) ∙ ap suc rest.counted;
  typed = λ e. absurd (cc);
}

-- ---- methods

abbrev is_method : (types : Types) (c name : Name) (n : ℕ) (m : NamedMethod) (b : Bool) (es : t.Terms) → MethodStands types c name n m → method_in types c name n ≡ Some m → m.is_static ≡ b
    → lower.count es ≡ n → IsMethod types b m.named (lower.count es) (type_given m.result)
is_method types c name n m b es stands found kind counted = record {
  method = m;
  found = ap (λ (k : Name). method_in types k m.named.name (lower.count es)) stands.class
      ∙ (ap (λ (k : Name). method_in types c k (lower.count es)) stands.name_is ∙ (ap (method_in types c name) counted ∙ found));
  is = refl;
  kind = kind;
  gives = refl;
  told = stands.told;
  known = stands.result;
}

-- with arguments that aren't bad the use is judged
call-use : (types : Types) (at : ℕ) (args : List Term) (misused : Bool) (given : Option FaceTy) → is_known_result types given ≡ true → any_bad args ≡ false
    → Silent (use_notes at (call_use types args misused given)) → IsUsed misused (call_use types args misused given)
call-use types at args misused given known fine s = go (any_bad args) fine s
  where
    go : (b : Bool) → b ≡ false → Silent (use_notes at (if b then usage.Unjudged else use_of types misused given)) → IsUsed misused (if b then usage.Unjudged else use_of types misused given)
    go true bad s = false-true (sym bad)
    go false bad s = use_used types at misused given known s

-- a call without meaning would be found
no-call : (lost : Bool) (args : List Term) (c : FindingCode) (at : ℕ) {A : Type 0} → lost ≡ false → any_bad args ≡ false → Silent (unfound lost args c at) → A
no-call lost args c at kept fine s = false-true (sym (or-fails lost (any_bad args) kept fine) ∙ not-false (lost || any_bad args) (unfound_if (not (lost || any_bad args)) c at s))

-- ---- behind a dot

on-value : (f : Frame) (c name : Name) (n : ℕ) (m : NamedMethod) (args : List Term) (v : Term) (at first : ℕ) → MethodStands f.types c name n m → method_in f.types c name n ≡ Some m → ArgsSound f m.params n args
    → m.is_static ≡ false → TermTyped f v → type_in v ≡ Some (value.Named c) → Sound f (t.Call (sound at first (type_given m.result)) v m.named (terms args))
on-value f c name n m args v at first stands found sound_args kind typed class = record {
  typed = (
    typed,
    class ∙ ap (λ (k : Name). Some (value.Named k)) (sym stands.class),
    (is_method f.types c name n m false (terms args) stands found kind sound_args.counted, sound_args.typed stands.counted),
  );
  fine = refl;
}

static-made : (f : Frame) (c name : Name) (n : ℕ) (m : NamedMethod) (args : List Term) (at first : ℕ) → MethodStands f.types c name n m → method_in f.types c name n ≡ Some m → ArgsSound f m.params n args
    → m.is_static ≡ true → Sound f (t.CallStatic (sound at first (type_given m.result)) m.named (terms args))
static-made f c name n m args at first stands found sound_args kind = record {
  typed = (is_method f.types c name n m true (terms args) stands found kind sound_args.counted, sound_args.typed stands.counted);
  fine = refl;
}

behind-by : (f : Frame) (b : Before) → BaseSound f b → (at : ℕ) (c name : Name) (n : ℕ) (m : NamedMethod) (args : List Term) → class_before b ≡ Some c
    → MethodStands f.types c name n m → method_in f.types c name n ≡ Some m → ArgsSound f m.params n args → is_misuse b m.is_static ≡ false
    → Sound f (method_term b m.named args (sound at (first_of b) (type_given m.result)))
behind-by f (OnType k here) base at c name n m args class stands found sound_args placed = static-made f c name n m args at here stands found sound_args (not-false m.is_static placed)
behind-by f (OnValue v) base at c name n m args class stands found sound_args placed =
    on-value f c name n m args v at (stamp_of v).first stands found sound_args placed base.sound.typed (value_class v c class)

some-call : (f : Frame) (b : Before) → BaseSound f b → (at : ℕ) (c name : Name) (n : ℕ) (m : NamedMethod) (args : List Term) → class_before b ≡ Some c
    → MethodStands f.types c name n m → method_in f.types c name n ≡ Some m → ArgsSound f m.params n args → Silent (method_behind_notes f.types b at m args)
    → Sound f (method_behind_term f.types b at m args)
some-call f b base at c name n m args class stands found sound_args s =
    subst (λ (u : Use). Sound f (method_term b m.named args (used at (first_of b) m.result u))) (sym is.is) (behind-by f b base at c name n m args class stands found sound_args is.placed)
  where
    is : IsUsed (is_misuse b m.is_static) (use_behind f.types b m args)
    is = call-use f.types at args (is_misuse b m.is_static) m.result stands.result sound_args.fine s

pub call_sound : (f : Frame) → TypesStand f.types → (b : Before) → BaseSound f b → (at : ℕ) (name : Name) (n : ℕ) (o : Option NamedMethod) → method_named f.types (class_before b) name n ≡ o
    → (args : List Term) → any_bad args ≡ false → ((m : NamedMethod) → o ≡ Some m → ArgsSound f m.params n args) → Silent (call_notes f.types b at o args) → Sound f (call_made f.types b at name o args)
call_sound f stand b base at name n None found args fine sound_args s = no-call (is_lost b) args code.UnknownMember at (base_kept f b base) fine s
call_sound f stand b base at name n (Some m) found args fine sound_args s = go (class_before b) refl found
  where
    go : (k : Option Name) → class_before b ≡ k → method_named f.types k name n ≡ Some m → Sound f (method_behind_term f.types b at m args)
    go None class e = none_some m e
    go (Some c) class e = some-call f b base at c name n m args class (method_stands f.types stand c name n m e) e (sound_args m refl) s

-- ---- of the own class

own-by : (g : Ground) (locals : List ValueType) (result : Option ValueType) → (at : ℕ) (name : Name) (n : ℕ) (m : NamedMethod) (args : List Term)
    → MethodStands g.types g.class name n m → method_in g.types g.class name n ≡ Some m → ArgsSound (frame_on g locals result) m.params n args
    → (a b : Bool) → m.is_static ≡ a → (b ≡ false → slice_get locals 0 ≡ Some (value.Named g.class)) → (b && not a) ≡ false
    → Sound (frame_on g locals result) (if a || b then t.CallStatic (sound at at (type_given m.result)) m.named (terms args) else t.Call (sound at at (type_given m.result)) (this_of g.class at) m.named (terms args))
own-by g locals result at name n m args stands found sound_args true b kind this placed = static-made (frame_on g locals result) g.class name n m args at at stands found sound_args kind
own-by g locals result at name n m args stands found sound_args false true kind this placed = false-true (sym placed)
own-by g locals result at name n m args stands found sound_args false false kind this placed =
    on-value (frame_on g locals result) g.class name n m args (this_of g.class at) at at stands found sound_args kind
    (this_sound (frame_on g locals result) g.class at (this refl)).typed refl

pub own_call_sound : (g : Ground) (locals : List ValueType) (result : Option ValueType) → GroundFits g locals → (at : ℕ) (name : Name) (n : ℕ) (o : Option NamedMethod) → method_in g.types g.class name n ≡ o
    → (args : List Term) → any_bad args ≡ false → ((m : NamedMethod) → o ≡ Some m → ArgsSound (frame_on g locals result) m.params n args)
    → Silent (own_call_notes g at o args) → Sound (frame_on g locals result) (own_call_made g at name o args)
own_call_sound g locals result fits at name n None found args fine sound_args s = no-call false args code.UnknownMember at refl fine s
own_call_sound g locals result fits at name n (Some m) found args fine sound_args s =
    subst (λ (u : Use). Sound (frame_on g locals result) (own_call_term g at m args (used at at m.result u))) (sym is.is)
    (own-by g locals result at name n m args stands found (sound_args m refl) m.is_static g.is_static refl fits.this is.placed)
  where
    stands : MethodStands g.types g.class name n m
    stands = method_stands g.types fits.stand g.class name n m found

    is : IsUsed (is_out_of_place g.is_static m.is_static) (own_use g m args)
    is = call-use g.types at args (is_out_of_place g.is_static m.is_static) m.result stands.result fine s

-- ---- `new`

pub new_args : (types : Types) (c : Name) (n : ℕ) → is_made types c n ≡ true → made_by types c n ≡ maker types c
new_args types c n made = ap (λ (b : Bool). if b then maker types c else None) made

new-made : (f : Frame) (c : Name) (n at : ℕ) (args : List Term) → is_made f.types c n ≡ true → ArgsSound f (maker_params (maker f.types c)) n args → Sound f (object_term at c args)
new-made f c n at args made sound_args = subst (λ (b : Bool). Sound f (t.New (unless_bad b at at (value.Named c)) c (terms args))) (sym sound_args.fine)
    (record {
      typed = (
        refl,
        ap (is_made f.types c) sound_args.counted ∙ made,
        sound_args.typed ((unsigned_Decides (length (maker_params (maker f.types c))) n).0 (and-second (is_makeable f.types c) _ made)),
      );
      fine = refl;
    })

pub new_sound : (f : Frame) (at named : ℕ) (c : Name) (n : ℕ) (args : List Term) → any_bad args ≡ false → (is_made f.types c n ≡ true → ArgsSound f (maker_params (maker f.types c)) n args)
    → Silent (new_notes f.types named c n args) → Sound f (new_term f.types at c n args)
new_sound f at named c n args fine sound_args s = go (is_known_name f.types c) (is_made f.types c n) refl s
  where
    go : (k m : Bool) → is_made f.types c n ≡ m
        → Silent (if k then (if m then [] else unfound false args code.UnknownMember named) else unfound false args code.UnknownType named)
        → Sound f (if k then (if m then object_term at c args else no_object_term at c args) else no_object_term at c args)
    go true true made s = new-made f c n at args made (sound_args made)
    go true false made s = no-call false args code.UnknownMember named refl fine s
    go false m made s = no-call false args code.UnknownType named refl fine s
