-- Expressions that are bound without a finding are typed.
use Rattle.std.proofs.Common.{◌≡◌, ℕ, suc, refl, sym, subst, Bool, true, false, if◌then◌else◌, List, [], ◌∷◌, ◌++◌, Option, Some, None}
use Rattle.std.specs.List.{AllByRecursion}
use Rattle.class_faces.specs.declared.face.FaceTy.TheVariants as face
use Rattle.class_faces.specs.declared.face.ParamFace.{ParamFace}
use Rattle.class_faces.specs.declared.face.MemberFace.{MemberFace}
use Rattle.java_lexer.specs.Value.{string_value}
use Rattle.tree_places.specs.PlainExpr.{PlainLexeme, PlainExpr, PlainExprs}
use Rattle.tree_places.specs.PlainExpr as e
use Rattle.bound_tree.specs.declared.name.ValueType.{ValueType}
use Rattle.bound_tree.specs.declared.name.ValueType.TheVariants as value
use Rattle.bound_tree.specs.declared.tree.Literal.TheVariants as literal
use Rattle.bound_tree.specs.declared.tree.UnaryOp.TheVariants as unary
use Rattle.name_rules.specs.Types.{Types, Name}
use Rattle.name_rules.specs.Scopes.{Scope}
use Rattle.name_rules.specs.Places.{Place, Anywhere, Of}
use Rattle.expression_binding.specs.Methods.{NamedMethod, method_in, method_named, method_params, method_notes, made_by, maker, maker_params, made_notes, is_made}
use Rattle.expression_binding.specs.Stamps.{string_type}
use Rattle.expression_binding.specs.Before.{class_before}
use Rattle.expression_binding.specs.Bound.{Ground, fit, is_paren, left_place, right_place, before, type_word, meaning_of, count, raw, raw_all, fitted, own_call_notes, call_notes, new_notes}
use Rattle.typed_units.specs.Frames.{type_in}
use Rattle.typed_units.specs.Standing.{TypesStand, IsKnownParam}
use Rattle.binding_types.specs.Silent.{Silent}
use Rattle.binding_types.specs.Grounds.{frame_on, GroundFits, ScopeFits}
use Rattle.binding_types.proofs.Silences.{first, second}
use Rattle.binding_types.proofs.Lookups.{method_stands, made_known}
use Rattle.binding_types.proofs.Fitting.{Sound, SoundAt, bound_fits, of_suits}
use Rattle.binding_types.proofs.Names.{constant_sound, this_at_sound, meaning_fits, meant_sound, base_sound, select_sound}
use Rattle.binding_types.proofs.Calls.{ArgsSound, no_args, first_arg, more_arg, own_call_sound, call_sound, new_args, new_sound}
use Rattle.binding_types.proofs.Operators.{parens_sound, on_one_sound, joined_sound}

-- the parameters of a method are known
abbrev AllKnown : Types → List ParamFace → Type 0
AllKnown types params = AllByRecursion (IsKnownParam types) params

own-params : (types : Types) → TypesStand types → (c name : Name) (n : ℕ) (o : Option NamedMethod) → method_in types c name n ≡ o → AllKnown types (method_params o)
own-params types stand c name n None e = tt
own-params types stand c name n (Some m) e = (method_stands types stand c name n m e).params

params-behind : (types : Types) → TypesStand types → (k : Option Name) (name : Name) (n : ℕ) (o : Option NamedMethod) → method_named types k name n ≡ o → AllKnown types (method_params o)
params-behind types stand k name n None e = tt
params-behind types stand None name n (Some m) e = absurd (cc)
params-behind types stand (Some c) name n (Some m) e = (method_stands types stand c name n m e).params

made-params : (types : Types) → TypesStand types → (c : Name) (n : ℕ) → AllKnown types (maker_params (made_by types c n))
made-params types stand c n = go (is_made types c n) refl
  where
    go : (b : Bool) → is_made types c n ≡ b → AllKnown types (maker_params (made_by types c n))
    go true made = subst (λ (o : Option MemberFace). AllKnown types (maker_params o)) (sym (new_args types c n made)) (made_known types stand c)
    go false made = subst (λ (b : Bool). AllKnown types (maker_params (if b then maker types c else None))) (sym made) tt

mutual
  unfolding raw raw_all

  pub raw-sound : (g : Ground) (locals : List ValueType) (result : Option ValueType) (scope : Scope) → GroundFits g locals → ScopeFits g.types locals scope
      → (x : PlainExpr) → Silent (raw g scope x).notes → Sound (frame_on g locals result) (raw g scope x).term
  raw-sound g locals result scope fits names (e.Int w) s = constant_sound (frame_on g locals result) (suc w.at) value.Int _ refl
  raw-sound g locals result scope fits names (e.Str w) s = constant_sound (frame_on g locals result) (suc w.at) string_type (literal.Str (string_value w.text)) refl
  raw-sound g locals result scope fits names (e.True at) s = constant_sound (frame_on g locals result) (suc at) value.Boolean _ refl
  raw-sound g locals result scope fits names (e.False at) s = constant_sound (frame_on g locals result) (suc at) value.Boolean _ refl
  raw-sound g locals result scope fits names (e.Null at) s = constant_sound (frame_on g locals result) (suc at) value.Null _ refl
  raw-sound g locals result scope fits names (e.This at) s = this_at_sound g locals result fits (suc at) s
  raw-sound g locals result scope fits names (e.Name w) s =
      meant_sound g locals result fits (suc w.at) w.text (meaning_of g scope w.text) (meaning_fits g locals scope w.text names) s
  raw-sound g locals result scope fits names (e.Call w args closing) s =
      let m = method_in g.types g.class w.text (count args) in
      let bound = raw_all g scope (method_params m) args in
      let rest : Silent (bound.notes ++ own_call_notes g (suc w.at) m bound.terms) = second (method_notes (count args) m) _ s in
      let sound = all-sound g locals result scope fits names (method_params m) (own-params g.types fits.stand g.class w.text (count args) m refl) args (first bound.notes _ rest) in
      own_call_sound g locals result fits (suc w.at) w.text (count args) m refl bound.terms sound.fine
      (λ (x : NamedMethod) is. subst (λ (o : Option NamedMethod). ArgsSound (frame_on g locals result) (method_params o) (count args) bound.terms) is sound) (second bound.notes _ rest)
  raw-sound g locals result scope fits names (e.New at w args closing) s =
      let m = made_by g.types w.text (count args) in
      let bound = raw_all g scope (maker_params m) args in
      let rest : Silent (bound.notes ++ new_notes g.types (suc w.at) w.text (count args) bound.terms) = second (made_notes w.text (count args) m) _ s in
      let sound = all-sound g locals result scope fits names (maker_params m) (made-params g.types fits.stand w.text (count args)) args (first bound.notes _ rest) in
      new_sound (frame_on g locals result) (suc at) (suc w.at) w.text (count args) bound.terms sound.fine
      (λ made. subst (λ (o : Option MemberFace). ArgsSound (frame_on g locals result) (maker_params o) (count args) bound.terms) (new_args g.types w.text (count args) made) sound) (second bound.notes _ rest)
  raw-sound g locals result scope fits names (e.Paren opening inside closing) s =
      parens_sound (frame_on g locals result) (suc opening) (raw g scope inside).term (raw-sound g locals result scope fits names inside s)
  raw-sound g locals result scope fits names (e.Select from w) s =
      let b = before g scope from (raw g scope from) in
      let base = base_sound (frame_on g locals result) (type_word g scope from) (is_paren from) (raw g scope from) (raw-sound g locals result scope fits names from) (first b.notes _ s) in
      select_sound (frame_on g locals result) fits.stand b.base base (suc w.at) w.text (second b.notes _ s)
  raw-sound g locals result scope fits names (e.CallOn from w args closing) s =
      let b = before g scope from (raw g scope from) in
      let m = method_named g.types (class_before b.base) w.text (count args) in
      let bound = raw_all g scope (method_params m) args in
      let base = base_sound (frame_on g locals result) (type_word g scope from) (is_paren from) (raw g scope from) (raw-sound g locals result scope fits names from) (first b.notes _ s) in
      let rest : Silent (bound.notes ++ call_notes g.types b.base (suc w.at) m bound.terms) = second (method_notes (count args) m) _ (second b.notes _ s) in
      let sound = all-sound g locals result scope fits names (method_params m) (params-behind g.types fits.stand (class_before b.base) w.text (count args) m refl) args (first bound.notes _ rest) in
      call_sound (frame_on g locals result) fits.stand b.base base (suc w.at) w.text (count args) m refl bound.terms sound.fine
      (λ (x : NamedMethod) is. subst (λ (o : Option NamedMethod). ArgsSound (frame_on g locals result) (method_params o) (count args) bound.terms) is sound) (second bound.notes _ rest)
  raw-sound g locals result scope fits names (e.Not at operand) s =
      let v = bound_fits (frame_on g locals result) (Of face.Bool) (is_paren operand) (raw g scope operand) (raw-sound g locals result scope fits names operand) s in
      on_one_sound (frame_on g locals result) unary.Not (suc at) _ v.sound (of_suits g.types face.Bool _ refl v.fits)
  raw-sound g locals result scope fits names (e.Neg at operand) s =
      let v = bound_fits (frame_on g locals result) (Of face.Int) (is_paren operand) (raw g scope operand) (raw-sound g locals result scope fits names operand) s in
      on_one_sound (frame_on g locals result) unary.Negate (suc at) _ v.sound (of_suits g.types face.Int _ refl v.fits)
  raw-sound g locals result scope fits names (e.Binary l op at r) s =
      let a = fit g.types (left_place op) (is_paren l) (raw g scope l) in
      let x = bound_fits (frame_on g locals result) (left_place op) (is_paren l) (raw g scope l) (raw-sound g locals result scope fits names l) (first a.notes _ s) in
      let y = bound_fits (frame_on g locals result) (right_place op (type_in a.term)) (is_paren r) (raw g scope r) (raw-sound g locals result scope fits names r) (second a.notes _ s) in
      joined_sound (frame_on g locals result) op (suc at) a.term _ x y

  pub all-sound : (g : Ground) (locals : List ValueType) (result : Option ValueType) (scope : Scope) → GroundFits g locals → ScopeFits g.types locals scope
      → (params : List ParamFace) → AllKnown g.types params → (xs : PlainExprs) → Silent (raw_all g scope params xs).notes
      → ArgsSound (frame_on g locals result) params (count xs) (raw_all g scope params xs).terms
  all-sound g locals result scope fits names params known e.no_exprs s = no_args (frame_on g locals result) params
  all-sound g locals result scope fits names [] known (e.expr a others) s =
      let v = bound_fits (frame_on g locals result) Anywhere (is_paren a) (raw g scope a) (raw-sound g locals result scope fits names a) (first (fit g.types Anywhere (is_paren a) (raw g scope a)).notes _ s) in
      more_arg (frame_on g locals result) (count others) _ _ v.sound
      (all-sound g locals result scope fits names [] tt others (second (fit g.types Anywhere (is_paren a) (raw g scope a)).notes _ s))
  all-sound g locals result scope fits names (p ∷ ps) known (e.expr a others) s =
      let v = bound_fits (frame_on g locals result) (Of p.ty) (is_paren a) (raw g scope a) (raw-sound g locals result scope fits names a) (first (fit g.types (Of p.ty) (is_paren a) (raw g scope a)).notes _ s) in
      first_arg (frame_on g locals result) p ps (count others) _ _ known.0 v
      (all-sound g locals result scope fits names ps known.1 others (second (fit g.types (Of p.ty) (is_paren a) (raw g scope a)).notes _ s))

-- in its place
pub fitted-sound : (g : Ground) (locals : List ValueType) (result : Option ValueType) (scope : Scope) → GroundFits g locals → ScopeFits g.types locals scope
    → (p : Place) (x : PlainExpr) → Silent (fitted g scope p x).notes → SoundAt (frame_on g locals result) p (fitted g scope p x).term
fitted-sound g locals result scope fits names p x s =
    bound_fits (frame_on g locals result) p (is_paren x) (raw g scope x) (raw-sound g locals result scope fits names x) s
