-- The code of typed units.
use Rattle.std.proofs.Common.{◌≡◌, ℕ, true, false, [], ◌++◌, Option, Some, None, refl, sym, ◌∙◌, ap, subst, length}
use Rattle.std.specs.Prelude.{is_some, nat_lt}
use Rattle.std.proofs.lemmas.List.{length-map}
use Rattle.class_faces.specs.declared.face.MemberFace.{MemberFace}
use Rattle.bound_tree.specs.declared.name.ValueType.{ValueType}
use Rattle.bound_tree.specs.declared.unit.Body.{Body}
use Rattle.bound_tree.specs.declared.unit.Part.{Part}
use Rattle.bound_tree.specs.declared.unit.Part.TheVariants as part
use Rattle.bound_unit.specs.Names.{Faces}
use Rattle.bound_unit.specs.UnitFacts.{UnitFacts}
use Rattle.core_model.specs.declared.program.Program.{Program}
use Rattle.core_types.specs.Types.{Types, UnitTypes, args_of}
use Rattle.core_types.specs.Paths.{reads}
use Rattle.core_types.specs.Programs.{Returns}
use Rattle.lowering.specs.Code.{Code}
use Rattle.lowering.specs.Endings.{part_may_end}
use Rattle.lowering.specs.Kinds.{types_asked}
use Rattle.lowering.specs.Lower.{code_of, part_code, sig_code}
use Rattle.lowering.specs.Numbers.{Numbers, numbered}
use Rattle.lowering.specs.Operands.{PartFits}
use Rattle.lowering.proofs.Generic.{part-good}
use Rattle.lowering.proofs.Endings.{part-ends}
use Rattle.lowering.proofs.LiveReads.{unit-reads}
use Rattle.name_rules.specs.Types.{Name, is_declared}
use Rattle.name_rules.specs.Types as rules
use Rattle.typed_units.specs.Declared.{args_types}
use Rattle.typed_units.specs.Units.{TypedUnit, PartTyped}
use Rattle.unit_rules.specs.Shown.{types_shown}
use Rattle.program_types.specs.Types.{value_type, param_types, params_in, this_type, part_types, result_type}
use Rattle.program_types.specs.Numbering.{NumbersFit}
use Rattle.program_types.specs.Codes.{CodeFits}
use Rattle.program_types.proofs.Trees.{args_are, part_typed}

sig_reads : (r : Numbers) (o : Option ValueType) (i : ℕ) → reads i (numbered r (sig_code o)) false ≡ false
sig_reads r None i = refl
sig_reads r (Some ty) i = refl

sig_returns : (r : Numbers) (o : Option ValueType) → Returns (result_type r o) false (numbered r (sig_code o))
sig_returns r None = tt
sig_returns r (Some ty) = refl

-- only `this` and the parameters are read before they are set
part_set : (p : Program) (T : Types) (r : Numbers) (faces : Faces) (c key : Name) → NumbersFit p T r (types_shown faces) → is_declared (types_shown faces) c ≡ true
    → (w : Part) → PartTyped faces c key w → (i : ℕ) → reads i (numbered r (part_code c w)) false ≡ true
    → nat_lt i (length (args_of (part_types r c (params_in (rules.member_in key (types_shown faces c))) w))) ≡ true
part_set p T r faces c key n own (part.Header names) h i e = absurd (let no : ⊥ = cc in no)
part_set p T r faces c key n own (part.Field ty initial) h i e = absurd (let no : ⊥ = cc in no)
part_set p T r faces c key n own (part.Sig params result) h i e = absurd (let no : ⊥ = cc (sig_reads r result i) in no)
part_set p T r faces c key n own (part.Body b) h i e =
    subst (λ (o : Option MemberFace). nat_lt i (length (this_type r b.is_static c ++ param_types r (params_in o))) ≡ true) (sym h.member.shown)
    (ap (nat_lt i) (ap length (args_are p T r (types_shown faces) n c own b.is_static h.member.face.params)
    ∙ length-map (args_types b.is_static c h.member.face.params) (value_type r))
    ∙ h.body.set i (sym (unit-reads r (record { class = c; part = part.Body b; annotations = []; standing = [] }) i false) ∙ e))

body_returns : (p : Program) (T : Types) (u : UnitTypes) (r : Numbers) (c : Name) (b : Body) (o : Option ValueType)
    → PartFits (types_asked p T u r) c (part.Body b) → (is_some o ≡ true → part_may_end (part.Body b) ≡ false)
    → Returns (result_type r o) false (numbered r (part_code c (part.Body b)))
body_returns p T u r c b None h end = tt
body_returns p T u r c b (Some ty) h end = part-ends (types_asked p T u r) c (part.Body b) h ∙ end refl

part_returns : (p : Program) (T : Types) (r : Numbers) (faces : Faces) (c key : Name) → NumbersFit p T r (types_shown faces) → is_declared (types_shown faces) c ≡ true
    → (w : Part) → PartTyped faces c key w
    → Returns (part_types r c (params_in (rules.member_in key (types_shown faces c))) w).result false (numbered r (part_code c w))
part_returns p T r faces c key n own (part.Header names) h = tt
part_returns p T r faces c key n own (part.Field ty initial) h = tt
part_returns p T r faces c key n own (part.Sig params result) h = sig_returns r result
part_returns p T r faces c key n own (part.Body b) h =
    body_returns p T (part_types r c (params_in (rules.member_in key (types_shown faces c))) (part.Body b)) r c b b.result
    (part_typed p T r faces c key n own (part.Body b) h) h.body.returns

pub code-typed : (p : Program) (T : Types) (r : Numbers) (faces : Faces) (u : UnitFacts)
    → NumbersFit p T r (types_shown faces) → TypedUnit faces u → u.code ≡ code_of u.tree
    → CodeFits p T (part_types r u.tree.class (params_in (rules.member_in u.key (types_shown faces u.tree.class))) u.tree.part) (numbered r u.code)
code-typed p T r faces u n h is =
    subst (λ (k : Code). CodeFits p T (part_types r u.tree.class (params_in (rules.member_in u.key (types_shown faces u.tree.class))) u.tree.part) (numbered r k))
    (sym is)
    (let good =
    part-good (types_asked p T (part_types r u.tree.class (params_in (rules.member_in u.key (types_shown faces u.tree.class))) u.tree.part) r)
    u.tree.class u.tree.part (part_typed p T r faces u.tree.class u.key n h.own u.tree.part h.part) in
    record {
      fits = good.fits;
      needs = good.needs;
      set = part_set p T r faces u.tree.class u.key n h.own u.tree.part h.part;
      returns = part_returns p T r faces u.tree.class u.key n h.own u.tree.part h.part;
    })
