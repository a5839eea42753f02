-- Parameters and results that are bound without a finding, and where a member's body is bound.
use Rattle.std.proofs.Common.{◌≡◌, ℕ, ◌+◌, ◌<◌, ◌≤◌, ◌==◌, refl, ap, sym, ◌∙◌, subst, arith, add-one, Bool, true, false, if◌then◌else◌, List, [], ◌∷◌, ◌++◌, map, length, nat_lt, Option, Some, None, ltb-false}
use Rattle.std.specs.List.{AllByRecursion}
use Rattle.std.specs.Option.{option_map}
use Rattle.std.specs.Cmp.{unsigned_Decides}
use Rattle.std.proofs.lemmas.List.{length-map}
use Rattle.bound_tree.proofs.Tests.{or-right}
use Rattle.desk_base.specs.declared.span.Span.{Span}
use Rattle.java_tree.specs.declared.member.Ty.{Ty}
use Rattle.java_tree.specs.declared.member.Ty.TheVariants as ty
use Rattle.java_tree.specs.declared.member.Param.{Param}
use Rattle.class_faces.specs.declared.face.ParamFace.{ParamFace}
use Rattle.class_faces.specs.Assigned.{Names}
use Rattle.class_faces.specs.Faces.{face_ty, param_face}
use Rattle.tree_places.specs.Plain.{plain_ty}
use Rattle.bound_tree.specs.declared.name.ValueType.{ValueType}
use Rattle.name_rules.specs.declared.scope.Entry.{Entry}
use Rattle.name_rules.specs.Types.{Name, Types, is_known, is_declared, is_built_in, is_known_name}
use Rattle.name_rules.specs.Scopes.{Scope, in_scope, with_entry}
use Rattle.expression_binding.specs.Stamps.{type_given}
use Rattle.statement_binding.specs.DeclaredTypes.{declared, declared_notes}
use Rattle.binder.specs.Params.{result_face, result_notes, result_type, param_entry, param_notes, params_notes, params_scope}
use Rattle.typed_units.specs.Named.{is_known_result}
use Rattle.typed_units.specs.Declared.{param_type, args_types}
use Rattle.binding_types.specs.Silent.{Silent}
use Rattle.binding_types.specs.Grounds.{EntryFits, ScopeFits}
use Rattle.binding_types.specs.Named.{Misses, MissesEntry}
use Rattle.binding_types.specs.Placed.{Placed}
use Rattle.binding_types.proofs.Silences.{first, second}
use Rattle.binding_types.proofs.Placing.{all_joined}
use Rattle.binding_types.proofs.Known.{AllKnown, type_known}
use Rattle.binding_types.proofs.Actions.{declared_type}

-- ---- types

declared-face : (number : Span → ℕ) (t : Ty) → declared (plain_ty number t) ≡ face_ty t
declared-face number (ty.Int at) = refl
declared-face number (ty.Boolean at) = refl
declared-face number (ty.Named w) = refl

pub ty_known : (types : Types) (number : Span → ℕ) (t : Ty) → Silent (declared_notes types (plain_ty number t)) → is_known types (face_ty t) ≡ true
ty_known types number t s = sym (ap (is_known types) (declared-face number t)) ∙ type_known types (plain_ty number t) s

pub result_known : (types : Types) (number : Span → ℕ) (r : Option Ty) → Silent (result_notes types number r) → is_known_result types (result_face r) ≡ true
result_known types number None s = refl
result_known types number (Some t) s = ty_known types number t s

pub result_given : (r : Option Ty) → type_given (result_face r) ≡ result_type r
result_given None = refl
result_given (Some t) = refl

pub face_given : (r : Option Ty) → result_type r ≡ type_given (option_map face_ty r)
face_given None = refl
face_given (Some t) = refl

-- ---- parameters

abbrev pub faces_of : Names → List Param → List ParamFace
faces_of names ps = map (param_face names) ps

abbrev pub types_of : Names → List Param → List ValueType
types_of names ps = map param_type (faces_of names ps)

pub types_count : (names : Names) (ps : List Param) → length (types_of names ps) ≡ length ps
types_count names ps = length-map (faces_of names ps) param_type ∙ length-map ps (param_face names)

pub params_known : (types : Types) (number : Span → ℕ) (names : Names) (n : ℕ) (scope : Scope) (ps : List Param) → Silent (params_notes types number n scope ps) → AllKnown types (types_of names ps)
params_known types number names n scope [] s = tt
params_known types number names n scope (q ∷ qs) s = (
  declared_type (face_ty q.ty) types (ty_known types number q.ty (first (declared_notes types (plain_ty number q.ty)) _ (first (param_notes types number scope q) _ s))),
  params_known types number names (n + 1) (with_entry scope (param_entry n q)) qs (second (param_notes types number scope q) _ s),
)

entry-with : (P : Entry → Type 0) (b : Bool) (scope : Scope) (e : Entry) → AllByRecursion P scope → P e → AllByRecursion P (if b then scope else scope ++ e ∷ [])
entry-with P true scope e h i = h
entry-with P false scope e h i = all_joined P scope (e ∷ []) h (i, tt)

pub params_fit : (types : Types) (number : Span → ℕ) (names : Names) (locals : List ValueType) (n : ℕ) (scope : Scope) (ps : List Param) → ScopeFits types locals scope
    → Placed locals n (types_of names ps) → Silent (params_notes types number n scope ps) → ScopeFits types locals (params_scope n scope ps)
params_fit types number names locals n scope [] fits placed s = fits
params_fit types number names locals n scope (q ∷ qs) fits placed s =
    params_fit types number names locals (n + 1) (with_entry scope (param_entry n q)) qs
    (entry-with (EntryFits types locals) (in_scope scope q.name.text) scope (param_entry n q) fits
    (record { kept = placed.0; known = ty_known types number q.ty (first (declared_notes types (plain_ty number q.ty)) _ (first (param_notes types number scope q) _ s)) }))
    (subst (λ (k : ℕ). Placed locals k (types_of names qs)) (sym (add-one n)) placed.1) (second (param_notes types number scope q) _ s)

apart : (x n : ℕ) (b : Bool) → (x == n) ≡ b → n < x → b ≡ false
apart x n false e h = refl
apart x n true e h = absurd (let same : x ≡ n = (unsigned_Decides x n).0 e in omega (arith, same, h))

pub params_miss : (x n : ℕ) (scope : Scope) (ps : List Param) → n + length ps ≤ x → Misses x scope → Misses x (params_scope n scope ps)
params_miss x n scope [] h misses = misses
params_miss x n scope (q ∷ qs) h misses =
    params_miss x (n + 1) (with_entry scope (param_entry n q)) qs (omega (arith, h))
    (entry-with (MissesEntry x) (in_scope scope q.name.text) scope (param_entry n q) misses (apart x n (x == n) refl (omega (arith, h))))

pub at_least : (x n : ℕ) → nat_lt x n ≡ false → n ≤ x
at_least x n e = ltb-false x n e

pub own_known : (types : Types) (c : Name) → is_declared types c ≡ true → is_known_name types c ≡ true
own_known types c own = or-right (is_built_in c) (is_declared types c) own

pub args_known : (types : Types) (c : Name) (static : Bool) (params : List ParamFace) → is_declared types c ≡ true → AllKnown types (map param_type params) → AllKnown types (args_types static c params)
args_known types c true params own known = known
args_known types c false params own known = (own_known types c own, known)
