-- Under two views that show one thing of what a unit's notes tell, it is bound to one.
use Rattle.std.proofs.Common.{◌≡◌, refl, sym, ℕ, suc, ◌+◌, Bool, true, false, not, ◌&&◌, ◌||◌, if◌then◌else◌, List, [], ◌∷◌, ◌++◌, inl, inr, map, length, codes, Option, Some, None, ap, ap₂, ◌∙◌, subst}
use Rattle.std.specs.List.{flat_map, list_all}
use Rattle.desk_base.specs.declared.span.Span.{Span}
use Rattle.java_tree.specs.declared.file.ClassTree.{ClassTree}
use Rattle.java_tree.specs.declared.member.Field.{Field as JavaField}
use Rattle.java_tree.specs.declared.member.Init.{Init}
use Rattle.java_tree.specs.declared.member.Init.TheVariants as init
use Rattle.java_tree.specs.declared.member.Main.{Main}
use Rattle.java_tree.specs.declared.member.MemberTree.{MemberTree}
use Rattle.java_tree.specs.declared.member.MemberTree.TheVariants as member
use Rattle.java_tree.specs.declared.member.Param.{Param}
use Rattle.java_tree.specs.declared.member.Sig.{Sig as JavaSig}
use Rattle.java_tree.specs.declared.member.Ty.{Ty}
use Rattle.java_tree.specs.declared.member.Ty.TheVariants as ty
use Rattle.java_tree.specs.declared.token.Lexeme.{Lexeme}
use Rattle.class_faces.specs.declared.face.FaceTy.{FaceTy}
use Rattle.class_faces.specs.declared.face.MemberFace.{MemberFace}
use Rattle.class_faces.specs.Faces.{face_ty}
use Rattle.promise_grammar.specs.declared.tree.PromiseTree.{PromiseTree, out-PromiseTree}
use Rattle.promise_grammar.specs.declared.tree.PromiseTree.TheOpen.{PromiseTree-F}
use Rattle.promise_marks.specs.declared.mark.Mark.{Mark}
use Rattle.result_records.specs.declared.code.FindingCode.{FindingCode}
use Rattle.result_records.specs.declared.code.FindingCode.TheVariants as code
use Rattle.tree_places.specs.Plain.{plain_block, plain_ty}
use Rattle.views.specs.Face.{Face}
use Rattle.views.specs.Looks.{member_in, members_in, standing_at}
use Rattle.name_rules.specs.declared.note.Note.{Note}
use Rattle.name_rules.specs.declared.note.Note.TheVariants as note
use Rattle.name_rules.specs.Types.{Name, Types, is_known_name, is_interface}
use Rattle.name_rules.specs.Notes.{found_if}
use Rattle.name_rules.specs.Places.{Of}
use Rattle.name_rules.specs.Scopes.{Scope, in_scope, with_entry}
use Rattle.expression_binding.specs.Laws.{IsTold, AgreeOn, AgreeAtType}
use Rattle.statement_binding.specs.DeclaredTypes.{declared, declared_notes}
use Rattle.statement_binding.specs.Done.{Done}
use Rattle.statement_binding.specs.Initials.{initial, type_of_init, place_of_init, finding_at, initial_notes}
use Rattle.bound_unit.specs.Names.{Faces}
use Rattle.bound_unit.specs.Implemented.{is_among}
use Rattle.unit_rules.specs.Assumed.{assumption_notes, content_notes, allowed_notes, annotation_notes}
use Rattle.unit_rules.specs.Annotations.{header_begins, member_begins}
use Rattle.unit_rules.specs.Given.{Written, begun, each_at, member_annotation}
use Rattle.unit_rules.specs.Headers.{word_of, header_annotations}
use Rattle.unit_rules.specs.Implements.{first_key, is_first, is_method_of, bad_unless, implemented_faults, implemented_notes, implements_after}
use Rattle.unit_rules.specs.Shown.{type_shown, types_shown}
use Rattle.binder.specs.Params.{value_type, result_type, result_face, result_notes, variable_of, param_entry, param_notes, params_notes, params_scope}
use Rattle.binder.specs.Members.{MadePart, Code, method_code, constructor_code, first_param, head_of, body_done, code_made, code_notes, is_synchronized, main_scope, main_head, main_done, field_made, sig_made, part_made, repeated_notes}
use Rattle.binder.specs.Trees as plain
use Rattle.binder.specs.Bound.{Bound, bound}
use Rattle.binding_laws.proofs.Told.{told-front, told-back, agree-front, agree-back}
use Rattle.binding_laws.proofs.Agreeing.{AgreeAtGiven, AgreeAtHad, misplaced-one}
use Rattle.binding_laws.proofs.OneStatement.{declared-one, declared-agrees, body-one}

-- they show one thing of the own class and of what is told
abbrev pub ShownOn : Faces → Faces → Name → List Note → Type 0
ShownOn F G class notes = (F class ≡ G class) × ((c : Name) → IsTold notes c → F c ≡ G c)

-- what is there without a declaration: neither shows another type of that name
abbrev pub OneBuiltIn : Types → Types → Type 0
OneBuiltIn T U = (T (codes "String") ≡ U (codes "String")) × (T (codes "Object") ≡ U (codes "Object"))

module _ (F G : Faces) (same : OneBuiltIn (types_shown F) (types_shown G)) (class : Name) where
  abbrev first : Types
  first = types_shown F

  abbrev second : Types
  second = types_shown G

  shown-front : (ns ms : List Note) → ShownOn F G class (ns ++ ms) → ShownOn F G class ns
  shown-front ns ms h = (h.0, λ c k. h.1 c (told-front ns ms c k))

  shown-back : (ns ms : List Note) → ShownOn F G class (ns ++ ms) → ShownOn F G class ms
  shown-back ns ms h = (h.0, λ c k. h.1 c (told-back ns ms c k))

  types-agree : (notes : List Note) → ShownOn F G class notes → AgreeOn first second class notes
  types-agree notes h c (inl e) = subst (λ (n : Name). first n ≡ second n) (sym e) (ap type_shown h.0)
  types-agree notes h c (inr (inl e)) = subst (λ (n : Name). first n ≡ second n) (sym e) same.0
  types-agree notes h c (inr (inr k)) = ap type_shown (h.1 c k)

  -- ---- types

  declared-face : (number : Span → ℕ) (t : Ty) → declared (plain_ty number t) ≡ face_ty t
  declared-face number (ty.Int at) = refl
  declared-face number (ty.Boolean at) = refl
  declared-face number (ty.Named w) = refl

  module _ (number : Span → ℕ) where
    ty-one : (t : Ty) → AgreeOn first second class (declared_notes first (plain_ty number t)) → declared_notes first (plain_ty number t) ≡ declared_notes second (plain_ty number t)
    ty-one t agree = declared-one first second class false (plain_ty number t) agree

    ty-agrees : (t : Ty) → AgreeOn first second class (declared_notes first (plain_ty number t)) → AgreeAtType first second (face_ty t)
    ty-agrees t agree = subst (λ (f : FaceTy). AgreeAtType first second f) (declared-face number t) (declared-agrees first second class false (plain_ty number t) agree)

    result-one : (r : Option Ty) → AgreeOn first second class (result_notes first number r) → result_notes first number r ≡ result_notes second number r
    result-one None agree = refl
    result-one (Some t) agree = ty-one t agree

    result-agrees : (r : Option Ty) → AgreeOn first second class (result_notes first number r) → AgreeAtGiven first second (result_face r)
    result-agrees None agree = tt
    result-agrees (Some t) agree = ty-agrees t agree

    abbrev param_with : Scope → Param → List Note → List Note
    param_with scope p notes = notes ++ found_if (in_scope scope p.name.text) code.RepeatedLocal (suc (number p.name.span))

    params-one : (n : ℕ) (scope : Scope) (ps : List Param) → AgreeOn first second class (params_notes first number n scope ps)
        → params_notes first number n scope ps ≡ params_notes second number n scope ps
    params-one n scope [] agree = refl
    params-one n scope (p ∷ ps) agree =
        let own = param_notes first number scope p in
        let behind = with_entry scope (param_entry n p) in
        let rest = params_notes first number (n + 1) behind ps in
        let head = agree-front first second class own rest agree in
        ap₂ (λ (a b : List Note). param_with scope p a ++ b) (ty-one p.ty (agree-front first second class (declared_notes first (plain_ty number p.ty)) _ head))
        (params-one (n + 1) behind ps (agree-back first second class own rest agree))

    -- ---- members with code

    abbrev code_with : Code → List Note → List Note → Done → MadePart
    code_with c gives takes done = record {
      part = plain.Body (record {
        name = c.name;
        is_static = c.is_static;
        is_synchronized = c.is_synchronized;
        params = map (variable_of number) c.params;
        result = result_type c.result;
        block = done.made;
      });
      notes = (gives ++ takes) ++ done.notes;
    }

    code-one : (c : Code) → AgreeOn first second class (code_notes F number class c) → code_made F number class c ≡ code_made G number class c
    code-one c agree =
        let start = first_param c.is_static in
        let gives = result_notes first number c.result in
        let takes = params_notes first number start [] c.params in
        let done = body_done F number class c in
        let head = agree-front first second class (gives ++ takes) done.notes agree in
        let on_result = agree-front first second class gives takes head in
        ap₂ (λ (a b : List Note). code_with c a b done) (result-one c.result on_result) (params-one start [] c.params (agree-back first second class gives takes head))
        ∙ ap (code_with c (result_notes second number c.result) (params_notes second number start [] c.params))
        (body-one first second class c.is_static (head_of number c) (params_scope start [] c.params) (start + length c.params) (plain_block number c.block)
        (result-agrees c.result on_result) (agree-back first second class (gives ++ takes) done.notes agree))

    abbrev main_with : Main → Done → MadePart
    main_with m done = record {
      part = plain.Body (record {
        name = m.name.text;
        is_static = true;
        is_synchronized = is_synchronized m.mods;
        params = [];
        result = None;
        block = done.made;
      });
      notes = done.notes;
    }

    main-one : (m : Main) → AgreeOn first second class (main_done F number class m).notes → main_done F number class m ≡ main_done G number class m
    main-one m agree = body-one first second class true (main_head number m) (main_scope m) 1 (plain_block number m.body) tt agree

    -- ---- fields

    init-agrees : (i : Init) → AgreeAtHad first second (Some (type_of_init i))
    init-agrees (init.Int w) = tt
    init-agrees (init.MinusInt at w) = tt
    init-agrees (init.True at) = tt
    init-agrees (init.False at) = tt
    init-agrees (init.Null at) = tt
    init-agrees (init.Str w) = same.0
    init-agrees (init.NewObject at) = same.1

    init-one : (t : FaceTy) (i : Option Init) → AgreeAtType first second t → initial_notes first number t i ≡ initial_notes second number t i
    init-one t None h = refl
    init-one t (Some i) h =
        ap (λ (found : Option FindingCode). finding_at found (suc (number (place_of_init i)))) (misplaced-one first second (Of t) (Some (type_of_init i)) h (init-agrees i))

    abbrev field_with : JavaField → List Note → List Note → MadePart
    field_with f a b = record { part = plain.Field (value_type f.ty) (initial (face_ty f.ty) f.init); notes = a ++ b }

    field-one : (f : JavaField) → AgreeOn first second class (field_made F number f).notes → field_made F number f ≡ field_made G number f
    field-one f agree =
        let head = agree-front first second class (declared_notes first (plain_ty number f.ty)) _ agree in
        ap₂ (field_with f) (ty-one f.ty head) (init-one (face_ty f.ty) f.init (ty-agrees f.ty head))

    abbrev sig_with : JavaSig → List Note → List Note → MadePart
    sig_with s a b = record { part = plain.Sig (map (variable_of number) s.params) (result_type s.result); notes = a ++ b }

    sig-one : (s : JavaSig) → AgreeOn first second class (sig_made F number s).notes → sig_made F number s ≡ sig_made G number s
    sig-one s agree =
        let gives = result_notes first number s.result in
        let takes = params_notes first number 1 [] s.params in
        ap₂ (sig_with s) (result-one s.result (agree-front first second class gives takes agree)) (params-one 1 [] s.params (agree-back first second class gives takes agree))

    part-one : (m : MemberTree) → AgreeOn first second class (part_made F number class m).notes → part_made F number class m ≡ part_made G number class m
    part-one (member.Field f) agree = field-one f agree
    part-one (member.Method m) agree = code-one (method_code m) agree
    part-one (member.Sig s) agree = sig-one s agree
    part-one (member.Ctor c) agree = code-one (constructor_code c) agree
    part-one (member.Main m) agree = ap (main_with m) (main-one m agree)

    abbrev member_with : MemberTree → (key : List ℕ) → List Mark → Option Face → MadePart → Bound
    member_with m key marks shown made = record {
      tree = record {
        class = class;
        annotations = member_begins number m;
        standing = begun (each_at (member_annotation m) marks (member_begins number m)) (standing_at shown key);
        part = made.part;
      };
      notes = repeated_notes number class m key ++ made.notes;
    }

    -- ---- headers

    abbrev answered_by : Option Face → Name → MemberFace → Bool
    answered_by shown interface m = not (is_first interface m) || is_method_of m (member_in shown (first_key class m))

    abbrev faults_by : Bool → Name → ℕ → Option Face → Option Face → List Note
    faults_by is_new name at f h =
        if is_known_name (λ _. type_shown f) name then bad_unless ((is_new && is_interface (λ _. type_shown f) name) && list_all (answered_by h name) (members_in f)) at
        else note.Finding code.UnknownType at ∷ []

    faults-one : (is_new : Bool) (name : Name) (at : ℕ) → F name ≡ G name → F class ≡ G class → implemented_faults F class is_new name at ≡ implemented_faults G class is_new name at
    faults-one is_new name at f h = ap₂ (faults_by is_new name at) f h

    implements-one : (before : List Name) (ws : List Lexeme) → ShownOn F G class (implements_after F number class before ws)
        → implements_after F number class before ws ≡ implements_after G number class before ws
    implements-one before [] h = refl
    implements-one before (w ∷ ws) h =
        let own = implemented_notes F class (not (is_among before w.text)) w.text (suc (number w.span)) in
        let rest = implements_after F number class (before ++ w.text ∷ []) ws in
        ap₂ (λ (a b : List Note). (note.Names w.text ∷ a) ++ b)
        (faults-one (not (is_among before w.text)) w.text (suc (number w.span)) (h.1 w.text (inl refl)) h.0)
        (implements-one (before ++ w.text ∷ []) ws (shown-back own rest h))

    content-one : (at : ℕ) (t : PromiseTree-F PromiseTree) → ShownOn F G class (content_notes F at t) → content_notes F at t ≡ content_notes G at t
    content-one at (PromiseTree-F.Assume inner m) h = ap (λ (f : Option Face). assumption_notes (λ _. f) at inner m) (h.1 m.class (inl refl))
    content-one at _ h = refl

    allowed-one : (at : ℕ) (t : Option PromiseTree) → ShownOn F G class (allowed_notes F at t) → allowed_notes F at t ≡ allowed_notes G at t
    allowed-one at None h = refl
    allowed-one at (Some t) h = content-one at (out-PromiseTree t) h

    annotations-one : (ws : List Written) → ShownOn F G class (flat_map (annotation_notes F) ws) → flat_map (annotation_notes F) ws ≡ flat_map (annotation_notes G) ws
    annotations-one [] h = refl
    annotations-one (w ∷ ws) h =
        ap₂ (λ (a b : List Note). a ++ b) (allowed-one w.at w.content (shown-front (annotation_notes F w) (flat_map (annotation_notes F) ws) h))
        (annotations-one ws (shown-back (annotation_notes F w) (flat_map (annotation_notes F) ws) h))

-- ---- units

abbrev header_with : (Span → ℕ) → ClassTree → (key : List ℕ) → List Mark → Option Face → List Note → List Note → Bound
header_with number class key marks shown told more = record {
  tree = record {
    class = class.name.text;
    annotations = header_begins number class;
    standing = begun (header_annotations number class marks) (standing_at shown key);
    part = plain.Header (map (word_of number) class.implements);
  };
  notes = told ++ more;
}

pub bound-one : (F G : Faces) → OneBuiltIn (types_shown F) (types_shown G) → (number : Span → ℕ) (class : ClassTree) (m : Option MemberTree) (key : List ℕ) (marks : List Mark)
    → ShownOn F G class.name.text (bound F number class m key marks).notes → bound F number class m key marks ≡ bound G number class m key marks
bound-one F G same number class None key marks h =
    let told = implements_after F number class.name.text [] class.implements in
    let more = flat_map (annotation_notes F) (header_annotations number class marks) in
    ap₂ (λ (shown : Option Face) (a : List Note). header_with number class key marks shown a more) h.0
    (implements-one F G same class.name.text number [] class.implements (shown-front F G same class.name.text told more h))
    ∙ ap (header_with number class key marks (G class.name.text) (implements_after G number class.name.text [] class.implements))
    (annotations-one F G same class.name.text number (header_annotations number class marks) (shown-back F G same class.name.text told more h))
bound-one F G same number class (Some m) key marks h =
    let twice = repeated_notes number class.name.text m key in
    let notes = (part_made F number class.name.text m).notes in
    ap₂ (member_with F G same class.name.text number m key marks) h.0
    (part-one F G same class.name.text number m
    (agree-back (types_shown F) (types_shown G) class.name.text twice notes (types-agree F G same class.name.text (twice ++ notes) h)))
