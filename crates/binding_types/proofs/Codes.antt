-- Members with code that are bound without a finding are typed.
use Rattle.std.proofs.Common.{◌≡◌, ℕ, suc, zero, zero-add, one-add, ◌+◌, ◌≤◌, ◌==◌, refl, ap, sym, ◌∙◌, subst, arith, Bool, true, false, if◌then◌else◌, List, [], ◌∷◌, ◌++◌, map, length, nat_lt, ◌<◌, lt-ltb, Option, Some, None, is_some}
use Rattle.std.specs.List.{slice_get}
use Rattle.std.proofs.Math.Dec.{eqb-suc-zero}
use Rattle.bound_tree.proofs.Tests.{false-true}
use Rattle.desk_base.specs.declared.span.Span.{Span}
use Rattle.java_tree.specs.declared.member.Main.{Main}
use Rattle.java_tree.specs.declared.member.Param.{Param}
use Rattle.java_tree.specs.declared.member.Ty.{Ty}
use Rattle.class_faces.specs.declared.face.ParamFace.{ParamFace}
use Rattle.class_faces.specs.Assigned.{Names}
use Rattle.class_faces.specs.Faces.{main_face}
use Rattle.tree_places.specs.Plain.{plain_block}
use Rattle.bound_tree.specs.declared.name.ValueType.{ValueType}
use Rattle.bound_tree.specs.declared.name.ValueType.TheVariants as value
use Rattle.bound_tree.specs.Tree.{Statement}
use Rattle.bound_tree.specs.Flows.{flow_of}
use Rattle.bound_tree.specs.Live.{live}
use Rattle.lowering.specs.CodeFlows.{entered}
use Rattle.lowering.specs.Endings.{may_end}
use Rattle.name_rules.specs.Types.{Name, Types, is_declared}
use Rattle.expression_binding.specs.Stamps.{type_given}
use Rattle.statement_binding.specs.Bodies.{body}
use Rattle.bound_unit.specs.Names.{Faces}
use Rattle.unit_rules.specs.Shown.{types_shown}
use Rattle.binder.specs.Members.{Code, first_param, ground_of, head_of, body_done, code_body, head_notes, code_notes, main_scope, main_head, main_done, main_body}
use Rattle.binder.specs.Params.{result_face, result_notes, result_type, params_notes, params_scope}
use Rattle.binder.specs.Trees.{PlainBody}
use Rattle.typed_units.specs.Declared.{args_types, declared_types, param_type}
use Rattle.typed_units.specs.Standing.{TypesStand}
use Rattle.typed_units.specs.Statements.{StatementTyped}
use Rattle.binding_types.specs.Silent.{Silent}
use Rattle.binding_types.specs.Placed.{Placed}
use Rattle.binding_types.specs.Members.{BlockWritten}
use Rattle.binding_types.specs.Bodies.{IsHeaded, BoundTyped}
use Rattle.binding_types.proofs.Silences.{first, second}
use Rattle.binding_types.proofs.Placing.{placed_all}
use Rattle.binding_types.proofs.Known.{AllKnown}
use Rattle.binding_types.proofs.Bodies.{bodies-typed}
use Rattle.binding_types.proofs.Heads.{faces_of, types_count, params_known, params_fit, params_miss, result_known, result_given, at_least, args_known}

-- ---- a body as plain data

pub record PlainTyped (types : Types) (class : Name) (params : List ParamFace) (b : PlainBody) : Type 0 where
  pub known : AllKnown types (args_types b.is_static class params ++ declared_types b.block)
  pub code : StatementTyped (record { types = types; locals = args_types b.is_static class params ++ declared_types b.block; result = b.result }) b.block
  pub set : (x : ℕ) → live x (entered b.is_synchronized b.is_static (flow_of b.block)) false ≡ true → nat_lt x (length (args_types b.is_static class params)) ≡ true
  pub returns : is_some b.result ≡ true → may_end b.block true ≡ false

some-below : (n : ℕ) → nat_lt 0 (suc n) ≡ true
some-below n = lt-ltb 0 (suc n) (let h : 0 < suc n = omega arith in h)

-- a synchronized member names `this` first, where there is one
entered-set : (sync static : Bool) (class : Name) (params : List ParamFace) (s : Statement) → ((x : ℕ) → live x (flow_of s) false ≡ true → nat_lt x (length (args_types static class params)) ≡ true)
    → (x : ℕ) → live x (entered sync static (flow_of s)) false ≡ true → nat_lt x (length (args_types static class params)) ≡ true
entered-set true true class params s h x e = h x e
entered-set false static class params s h x e = h x e
entered-set true false class params s h zero e = some-below (length (map param_type params))
entered-set true false class params s h (suc x) e = h (suc x) (sym (ap (λ (b : Bool). if b then true else live (suc x) (flow_of s) false) (eqb-suc-zero x)) ∙ e)

-- ---- where a body is bound

args-placed : (static : Bool) (class : Name) (params : List ParamFace) (ds : List ValueType) → args_types static class params ≡ args_types static class params
    → Placed (args_types static class params) (first_param static) (args_types true class params)
args-placed true class params ds e = placed_all (args_types true class params)
args-placed false class params ds e = (placed_all (args_types false class params)).1

this-kept : (static : Bool) (class : Name) (params : List ParamFace) → static ≡ false → slice_get (args_types static class params) 0 ≡ Some (value.Named class)
this-kept true class params e = false-true (sym e)
this-kept false class params e = refl

args-count : (static : Bool) (class : Name) (names : Names) (ps : List Param) → first_param static + length ps ≡ length (args_types static class (faces_of names ps))
args-count true class names ps = zero-add (length ps) ∙ sym (types_count names ps)
args-count false class names ps = one-add (length ps) ∙ ap suc (sym (types_count names ps))

this-first : (static : Bool) (class : Name) (params : List ParamFace) (x : ℕ) → nat_lt x (length (args_types static class params)) ≡ false → static ≡ false → (x == 0) ≡ false
this-first true class params x e static_is = false-true (sym static_is)
this-first false class params zero e static_is = false-true (sym e ∙ some-below (length (map param_type params)))
this-first false class params (suc x) e static_is = eqb-suc-zero x

pub code_headed : (faces : Faces) (number : Span → ℕ) (class : Name) (c : Code) (names : Names) → TypesStand (types_shown faces) → is_declared (types_shown faces) class ≡ true
    → (c.is_constructor ≡ true → result_face c.result ≡ None) → Silent (head_notes faces number c)
    → IsHeaded (ground_of faces class c.is_static) (head_of number c) (params_scope (first_param c.is_static) [] c.params) (args_types c.is_static class (faces_of names c.params))
code_headed faces number class c names stand own none s = record {
  fits = record { stand = stand; this = this-kept c.is_static class (faces_of names c.params) };
  names = params_fit (types_shown faces) number names (args_types c.is_static class (faces_of names c.params)) (first_param c.is_static) [] c.params tt
      (args-placed c.is_static class (faces_of names c.params) [] refl) quiet;
  known = args_known (types_shown faces) class c.is_static (faces_of names c.params) own (params_known (types_shown faces) number names (first_param c.is_static) [] c.params quiet);
  result = result_known (types_shown faces) number c.result (first (result_notes (types_shown faces) number c.result) _ s);
  constructor = none;
  others = λ x out. record {
    this = this-first c.is_static class (faces_of names c.params) x out;
    names = params_miss x (first_param c.is_static) [] c.params (subst (λ (n : ℕ). n ≤ x) (sym (args-count c.is_static class names c.params)) (at_least x _ out)) tt;
  };
}
  where
    quiet : Silent (params_notes (types_shown faces) number (first_param c.is_static) [] c.params)
    quiet = second (result_notes (types_shown faces) number c.result) _ s

pub code_typed : (faces : Faces) (number : Span → ℕ) (class : Name) (c : Code) (names : Names) → TypesStand (types_shown faces) → is_declared (types_shown faces) class ≡ true
    → (c.is_constructor ≡ true → result_face c.result ≡ None) → BlockWritten c.block → Silent (code_notes faces number class c)
    → PlainTyped (types_shown faces) class (faces_of names c.params) (code_body faces number class c)
code_typed faces number class c names stand own none written s = record {
  known = subst (λ (d : Statement). AllKnown types (args ++ declared_types d)) made typed.known;
  code = subst (λ (r : Option ValueType). StatementTyped (record { types = types; locals = args ++ declared_types (body_done faces number class c).made; result = r }) (body_done faces number class c).made)
      (result_given c.result)
      (subst (λ (d : Statement). StatementTyped (record { types = types; locals = args ++ declared_types d; result = type_given (result_face c.result) }) d) made typed.code);
  set = entered-set c.is_synchronized c.is_static class (faces_of names c.params) (body_done faces number class c).made
      (subst (λ (d : Statement). (x : ℕ) → live x (flow_of d) false ≡ true → nat_lt x (length args) ≡ true) made typed.set);
  returns = λ some. ap (λ (d : Statement). may_end d true) (sym made) ∙ typed.returns (some-face c.result some);
}
  where
    types : Types
    types = types_shown faces

    args : List ValueType
    args = args_types c.is_static class (faces_of names c.params)

    some-face : (r : Option Ty) → is_some (result_type r) ≡ true → is_some (result_face r) ≡ true
    some-face None e = e
    some-face (Some t) e = refl

    count : first_param c.is_static + length c.params ≡ length args
    count = args-count c.is_static class names c.params

    made : (body (ground_of faces class c.is_static) (head_of number c) (params_scope (first_param c.is_static) [] c.params) (length args) (plain_block number c.block)).made
        ≡ (body_done faces number class c).made
    made = ap (λ (n : ℕ). (body (ground_of faces class c.is_static) (head_of number c) (params_scope (first_param c.is_static) [] c.params) n (plain_block number c.block)).made) (sym count)

    quiet : Silent (body (ground_of faces class c.is_static) (head_of number c) (params_scope (first_param c.is_static) [] c.params) (length args) (plain_block number c.block)).notes
    quiet = subst (λ (n : ℕ). Silent (body (ground_of faces class c.is_static) (head_of number c) (params_scope (first_param c.is_static) [] c.params) n (plain_block number c.block)).notes) count
        (second (head_notes faces number c) _ s)

    typed : BoundTyped (ground_of faces class c.is_static) (head_of number c) (params_scope (first_param c.is_static) [] c.params) args (plain_block number c.block)
    typed = bodies-typed (ground_of faces class c.is_static) (head_of number c) (params_scope (first_param c.is_static) [] c.params) args (plain_block number c.block)
        (code_headed faces number class c names stand own none (first (head_notes faces number c) _ s)) (written number) quiet

-- ---- a main, whose parameter no name names

main-headed : (faces : Faces) (number : Span → ℕ) (class : Name) (m : Main) → TypesStand (types_shown faces)
    → IsHeaded (ground_of faces class true) (main_head number m) (main_scope m) (args_types true class (main_face m.param ∷ []))
main-headed faces number class m stand = record {
  fits = record { stand = stand; this = λ e. false-true (sym e) };
  names = (tt, tt);
  known = (refl, tt);
  result = refl;
  constructor = λ e. refl;
  others = λ x out. record { this = λ e. false-true (sym e); names = (tt, tt) };
}

pub main_typed : (faces : Faces) (number : Span → ℕ) (class : Name) (m : Main) → TypesStand (types_shown faces) → BlockWritten m.body → Silent (main_done faces number class m).notes
    → PlainTyped (types_shown faces) class (main_face m.param ∷ []) (main_body faces number class m)
main_typed faces number class m stand written s = record {
  known = typed.known;
  code = typed.code;
  set = entered-set _ true class (main_face m.param ∷ []) (main_done faces number class m).made typed.set;
  returns = λ some. false-true some;
}
  where
    typed : BoundTyped (ground_of faces class true) (main_head number m) (main_scope m) (args_types true class (main_face m.param ∷ [])) (plain_block number m.body)
    typed = bodies-typed (ground_of faces class true) (main_head number m) (main_scope m) (args_types true class (main_face m.param ∷ [])) (plain_block number m.body)
        (main-headed faces number class m stand) (written number) s
