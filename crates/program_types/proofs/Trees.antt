-- The trees of typed units are typed by numbers.
use Rattle.std.proofs.Common.{◌≡◌, ℕ, Bool, true, false, List, [], ◌∷◌, ◌++◌, Option, Some, None, refl, sym, ◌∙◌, ap, subst, map, slice_get}
use Rattle.std.specs.Prelude.{is_some}
use Rattle.std.proofs.lemmas.List.{map-append}
use Rattle.class_faces.specs.declared.face.ParamFace.{ParamFace}
use Rattle.class_faces.specs.declared.face.MemberFace.{MemberFace}
use Rattle.bound_tree.specs.declared.name.ValueType.{ValueType}
use Rattle.bound_tree.specs.declared.unit.Body.{Body}
use Rattle.bound_tree.specs.declared.unit.Part.{Part}
use Rattle.bound_tree.specs.declared.unit.Part.TheVariants as part
use Rattle.bound_tree.specs.Claims.{varies_of}
use Rattle.bound_tree.specs.Reading.{statement_of}
use Rattle.bound_unit.specs.Names.{Faces}
use Rattle.bound_unit.specs.UnitFacts.{UnitFacts}
use Rattle.core_model.specs.declared.program.Program.{Program}
use Rattle.core_types.specs.Types.{Ty, BoolType, ClassType, Types, UnitTypes, locals_of}
use Rattle.lowering.specs.Numbers.{Numbers, class_number, or_zero}
use Rattle.lowering.specs.Operands.{Enters, SigFits, PartFits}
use Rattle.lowering.specs.Kinds.{types_asked, IsTyped}
use Rattle.name_rules.specs.Types.{Name, is_declared}
use Rattle.name_rules.specs.Types as rules
use Rattle.typed_units.specs.Declared.{this_types, args_types, declared_types}
use Rattle.typed_units.specs.Declared as declared
use Rattle.typed_units.specs.Units.{TypedUnit, BodyTyped, PartTyped, frame_of, locals_in}
use Rattle.unit_rules.specs.Shown.{types_shown}
use Rattle.program_types.specs.Types.{value_type, value_types, result_type, param_type, param_types, params_in, this_type, part_types}
use Rattle.program_types.specs.Numbering.{NumbersFit}
use Rattle.program_types.proofs.Suiting.{itself, class_object, named_declared}
use Rattle.program_types.proofs.Giving.{fits}

module _ (p : Program) (T : Types) (r : Numbers) (types : rules.Types) (n : NumbersFit p T r types) (c : Name) (own : is_declared types c ≡ true) where
  this_is : (b : Bool) → this_type r b c ≡ value_types r (this_types b c)
  this_is true = refl
  this_is false = ap (λ (s : Ty). s ∷ []) (sym (named_declared p T r types c n own))

  params_are : (params : List ParamFace) → param_types r params ≡ value_types r (map declared.param_type params)
  params_are [] = refl
  params_are (x ∷ xs) = ap (λ (s : List Ty). param_type r x ∷ s) (params_are xs)

  -- `this` and the parameters
  pub args_are : (b : Bool) (params : List ParamFace) → this_type r b c ++ param_types r params ≡ value_types r (args_types b c params)
  args_are b params =
      ap (λ (s : List Ty). s ++ param_types r params) (this_is b)
      ∙ ap (λ (s : List Ty). value_types r (this_types b c) ++ s) (params_are params)
      ∙ sym (map-append (value_type r) (this_types b c) (map declared.param_type params))

  locals_are : (params : List ParamFace) (b : Body) → locals_of (part_types r c params (part.Body b)) ≡ value_types r (locals_in c params b)
  locals_are params b =
      ap (λ (s : List Ty). s ++ value_types r (declared_types (statement_of b.block))) (args_are b.is_static params)
      ∙ sym (map-append (value_type r) (args_types b.is_static c params) (declared_types (statement_of b.block)))

  there : is_some (slice_get p.classes (class_number r c)) ≡ true
  there = let h = n.declared c own in ap (λ (o : Option ℕ). is_some (slice_get p.classes (or_zero o))) h.is ∙ h.there

  -- a synchronized member enters `this`, or its class
  enters : (params others : List Ty) (result : Option Ty) (is_synchronized is_static : Bool)
      → Enters (types_asked p T (record { this = this_type r is_static c; params = params; others = others; result = result }) r) c is_synchronized is_static
  enters params others result false b = tt
  enters params others result true false = (ClassType (class_number r c), refl, class_object T (class_number r c))
  enters params others result true true = there

  body_typed : (params : List ParamFace) (b : Body) → BodyTyped types c params b
      → PartFits (types_asked p T (part_types r c params (part.Body b)) r) c (part.Body b)
  body_typed params b h = (
    enters (param_types r params) (value_types r (declared_types (statement_of b.block))) (result_type r b.result) b.is_synchronized b.is_static,
    fits p T (part_types r c params (part.Body b)) r (frame_of types c params b) n (locals_are params b) refl (varies_of (statement_of b.block))
        (statement_of b.block) h.code,
  )

sig_typed : (p : Program) (T : Types) (u : UnitTypes) (r : Numbers) (o : Option ValueType) → SigFits (types_asked p T u r) o
sig_typed p T u r None = tt
sig_typed p T u r (Some ty) = (BoolType, refl, itself T BoolType)

pub part_typed : (p : Program) (T : Types) (r : Numbers) (faces : Faces) (c key : Name) → NumbersFit p T r (types_shown faces) → is_declared (types_shown faces) c ≡ true
    → (w : Part) → PartTyped faces c key w
    → PartFits (types_asked p T (part_types r c (params_in (rules.member_in key (types_shown faces c))) w) r) c w
part_typed p T r faces c key n own (part.Header names) h = tt
part_typed p T r faces c key n own (part.Field ty i) h = tt
part_typed p T r faces c key n own (part.Sig params result) h =
    sig_typed p T (part_types r c (params_in (rules.member_in key (types_shown faces c))) (part.Sig params result)) r result
part_typed p T r faces c key n own (part.Body b) h =
    subst (λ (o : Option MemberFace). PartFits (types_asked p T (part_types r c (params_in o) (part.Body b)) r) c (part.Body b)) (sym h.member.shown)
    (body_typed p T r (types_shown faces) n c own h.member.face.params b h.body)

pub tree-typed : (p : Program) (T : Types) (r : Numbers) (faces : Faces) (u : UnitFacts)
    → NumbersFit p T r (types_shown faces) → TypedUnit faces u
    → IsTyped p T (part_types r u.tree.class (params_in (rules.member_in u.key (types_shown faces u.tree.class))) u.tree.part) r u.tree
tree-typed p T r faces u n h = part_typed p T r faces u.tree.class u.key n h.own u.tree.part h.part
