-- A unit that is moved is bound to what it is bound to with the numbers of the places that it is moved to.
use Rattle.std.proofs.Common.{◌≡◌, refl, ℕ, suc, ◌+◌, Bool, true, false, not, List, [], ◌∷◌, ◌++◌, map, length, Option, Some, None, ap, ap₂, ◌∙◌}
use Rattle.std.specs.List.{flat_map}
use Rattle.std.specs.Option.{option_map}
use Rattle.std.specs.Str.{bytes_eq}
use Rattle.desk_base.specs.declared.span.Span.{Span}
use Rattle.java_tree.specs.declared.member.Field.{Field as JavaField}
use Rattle.java_tree.specs.declared.member.Init.{Init}
use Rattle.java_tree.specs.declared.member.Init.TheVariants as init
use Rattle.java_tree.specs.declared.member.Main.{Main}
use Rattle.java_tree.specs.declared.member.MemberTree.{MemberTree}
use Rattle.java_tree.specs.declared.member.MemberTree.TheVariants as member
use Rattle.java_tree.specs.declared.member.Method.{Method}
use Rattle.java_tree.specs.declared.member.Mod.{Mod}
use Rattle.java_tree.specs.declared.member.Mod.TheVariants as modifier
use Rattle.java_tree.specs.declared.member.ModWord.TheVariants as modword
use Rattle.java_tree.specs.declared.member.Param.{Param}
use Rattle.java_tree.specs.declared.member.Sig.{Sig as JavaSig}
use Rattle.java_tree.specs.declared.member.Ty.{Ty}
use Rattle.java_tree.specs.declared.member.Ty.TheVariants as ty
use Rattle.java_tree.specs.declared.token.Lexeme.{Lexeme}
use Rattle.java_heads.specs.declared.header.Header.{Header}
use Rattle.class_faces.specs.declared.face.FaceTy.{FaceTy}
use Rattle.class_faces.specs.Faces.{face_ty}
use Rattle.class_faces.specs.Keys.{key_name, member_key}
use Rattle.bound_tree.specs.declared.name.ValueType.{ValueType}
use Rattle.bound_tree.specs.declared.unit.Initial.{Initial}
use Rattle.bound_tree.specs.declared.unit.Variable.{Variable}
use Rattle.bound_tree.specs.declared.unit.Word.{Word}
use Rattle.result_records.specs.declared.code.FindingCode.TheVariants as code
use Rattle.tree_places.specs.Moved.{moved_lexemes, moved_ty}
use Rattle.tree_places.specs.MovedStmt.{moved_block}
use Rattle.tree_places.specs.MovedMember.{moved_mod, moved_mods, moved_param, moved_params, moved_init, moved_field, moved_method, moved_sig, moved_main, moved_member, moved_header}
use Rattle.tree_places.specs.Plain.{plain_block, plain_ty}
use Rattle.tree_places.specs.PlainStmt.{PlainStmt}
use Rattle.tree_places.proofs.PlainStmt.{plain-moved_block}
use Rattle.promise_marks.specs.declared.mark.Mark.{Mark}
use Rattle.scrub_rules.specs.Place.{header_site}
use Rattle.views.specs.Looks.{standing_at}
use Rattle.name_rules.specs.declared.note.Note.{Note}
use Rattle.name_rules.specs.declared.scope.Entry.{Entry}
use Rattle.name_rules.specs.Types.{Name, Types}
use Rattle.name_rules.specs.Notes.{found_if}
use Rattle.name_rules.specs.Scopes.{Scope, in_scope, with_entry}
use Rattle.expression_binding.specs.Stamps.{type_of}
use Rattle.statement_binding.specs.Bodies.{Head, body}
use Rattle.statement_binding.specs.DeclaredTypes.{declared_notes}
use Rattle.statement_binding.specs.Done.{Done}
use Rattle.statement_binding.specs.Initials.{initial, written, initial_notes}
use Rattle.bound_unit.specs.Names.{Faces}
use Rattle.bound_unit.specs.Implemented.{is_among}
use Rattle.unit_rules.specs.Annotations.{mods_begin, member_begins}
use Rattle.unit_rules.specs.Assumed.{annotation_notes}
use Rattle.unit_rules.specs.Given.{Written, allowed, begun, each_at, member_annotation}
use Rattle.unit_rules.specs.Headers.{word_of}
use Rattle.unit_rules.specs.Implements.{implemented_notes, implements_after}
use Rattle.unit_rules.specs.Shown.{types_shown}
use Rattle.binder.specs.Params.{value_type, result_type, result_face, result_notes, variable_of, param_entry, params_notes, params_scope}
use Rattle.binder.specs.Members.{MadePart, Code, is_synchronized_word, is_synchronized, method_code, constructor_code, first_param, ground_of, head_of, body_done, head_notes, code_made, main_scope, main_head, main_done, field_made, sig_made, part_made, repeated_notes, member_tree, member_notes}
use Rattle.binder.specs.Trees.{PlainBody, PlainPart, PlainTree, tree_as}
use Rattle.binder.specs.Trees as plain
use Rattle.binder.specs.Bound.{Bound}
use Rattle.binding_laws.proofs.MovedMarks.{static-moved, final-moved, face_ty-moved, any-moved}
use Rattle.binding_laws.proofs.MovedBegins.{mods_begin-moved, member_begins-moved, each-moved}

module _ (place : Span → Span) (number : Span → ℕ) where
  abbrev far : Span → ℕ
  far at = number (place at)

  -- ---- types, parameters and results

  plain-moved : (t : Ty) → plain_ty number (moved_ty place t) ≡ plain_ty far t
  plain-moved (ty.Int at) = refl
  plain-moved (ty.Boolean at) = refl
  plain-moved (ty.Named w) = refl

  value-moved : (t : Ty) → value_type (moved_ty place t) ≡ value_type t
  value-moved t = ap type_of (face_ty-moved place t)

  declared-moved : (types : Types) (t : Ty) → declared_notes types (plain_ty number (moved_ty place t)) ≡ declared_notes types (plain_ty far t)
  declared-moved types t = ap (declared_notes types) (plain-moved t)

  abbrev variable_with : Param → ValueType → Variable
  variable_with p ty = record { at = suc (far p.name.span); name = p.name.text; ty = ty }

  variables-moved : (ps : List Param) → map (variable_of number) (moved_params place ps) ≡ map (variable_of far) ps
  variables-moved [] = refl
  variables-moved (p ∷ ps) = ap₂ (λ (ty : ValueType) (vs : List Variable). variable_with p ty ∷ vs) (value-moved p.ty) (variables-moved ps)

  abbrev entry_with : ℕ → Param → FaceTy → Bool → Entry
  entry_with n p ty is_final = record { name = p.name.text; variable = Some (record { number = n; ty = ty; is_final = is_final }) }

  entry-moved : (n : ℕ) (p : Param) → param_entry n (moved_param place p) ≡ param_entry n p
  entry-moved n p = ap₂ (entry_with n p) (face_ty-moved place p.ty) (final-moved place p.mods)

  scope-moved : (n : ℕ) (scope : Scope) (ps : List Param) → params_scope n scope (moved_params place ps) ≡ params_scope n scope ps
  scope-moved n scope [] = refl
  scope-moved n scope (p ∷ ps) =
      scope-moved (n + 1) (with_entry scope (param_entry n (moved_param place p))) ps
      ∙ ap (λ (e : Entry). params_scope (n + 1) (with_entry scope e) ps) (entry-moved n p)

  abbrev param_with : Scope → Param → List Note → List Note
  param_with scope p notes = notes ++ found_if (in_scope scope p.name.text) code.RepeatedLocal (suc (far p.name.span))

  params-moved : (types : Types) (n : ℕ) (scope : Scope) (ps : List Param) → params_notes types number n scope (moved_params place ps) ≡ params_notes types far n scope ps
  params-moved types n scope [] = refl
  params-moved types n scope (p ∷ ps) =
      ap₂ (λ (own rest : List Note). param_with scope p own ++ rest) (declared-moved types p.ty)
      (params-moved types (n + 1) (with_entry scope (param_entry n (moved_param place p))) ps
      ∙ ap (λ (e : Entry). params_notes types far (n + 1) (with_entry scope e) ps) (entry-moved n p))

  result_type-moved : (r : Option Ty) → result_type (option_map (moved_ty place) r) ≡ result_type r
  result_type-moved None = refl
  result_type-moved (Some t) = ap Some (value-moved t)

  result_face-moved : (r : Option Ty) → result_face (option_map (moved_ty place) r) ≡ result_face r
  result_face-moved None = refl
  result_face-moved (Some t) = ap Some (face_ty-moved place t)

  result_notes-moved : (types : Types) (r : Option Ty) → result_notes types number (option_map (moved_ty place) r) ≡ result_notes types far r
  result_notes-moved types None = refl
  result_notes-moved types (Some t) = declared-moved types t

  count-moved : (ps : List Param) → length (moved_params place ps) ≡ length ps
  count-moved [] = refl
  count-moved (p ∷ ps) = ap suc (count-moved ps)

  -- ---- members with code

  abbrev moved_code : Code → Code
  moved_code c = record {
    name = c.name;
    at = place c.at;
    is_static = c.is_static;
    is_synchronized = c.is_synchronized;
    is_constructor = c.is_constructor;
    result = option_map (moved_ty place) c.result;
    params = moved_params place c.params;
    block = moved_block place c.block;
  }

  synchronized_word-moved : (m : Mod) → is_synchronized_word (moved_mod place m) ≡ is_synchronized_word m
  synchronized_word-moved (modifier.Word modword.Synchronized at) = refl
  synchronized_word-moved _ = refl

  synchronized-moved : (ms : List Mod) → is_synchronized (moved_mods place ms) ≡ is_synchronized ms
  synchronized-moved ms = any-moved place is_synchronized_word synchronized_word-moved ms

  abbrev method_with : Method → Bool → Bool → Code
  method_with m static synchronized = record {
    name = m.name.text;
    at = place m.name.span;
    is_static = static;
    is_synchronized = synchronized;
    is_constructor = false;
    result = option_map (moved_ty place) m.result;
    params = moved_params place m.params;
    block = moved_block place m.body;
  }

  method-moved : (m : Method) → method_code (moved_method place m) ≡ moved_code (method_code m)
  method-moved m = ap₂ (method_with m) (static-moved place m.mods) (synchronized-moved m.mods)

  module _ (faces : Faces) (class : Name) where
    abbrev head_with : Code → Option FaceTy → Head
    head_with c result = record { result = result; is_constructor = c.is_constructor; name_at = suc (far c.at) }

    done-moved : (c : Code) → body_done faces number class (moved_code c) ≡ body_done faces far class c
    done-moved c =
        let first = first_param c.is_static in
        ap₂ (λ (r : Option FaceTy) (scope : Scope). body (ground_of faces class c.is_static) (head_with c r) scope (first + length (moved_params place c.params)) (plain_block number (moved_block place c.block)))
        (result_face-moved c.result) (scope-moved first [] c.params)
        ∙ ap₂ (λ (n : ℕ) (s : PlainStmt). body (ground_of faces class c.is_static) (head_of far c) (params_scope first [] c.params) (first + n) s)
        (count-moved c.params) (plain-moved_block place number c.block)

    head-moved : (c : Code) → head_notes faces number (moved_code c) ≡ head_notes faces far c
    head-moved c =
        ap₂ (λ (a b : List Note). a ++ b) (result_notes-moved (types_shown faces) c.result) (params-moved (types_shown faces) (first_param c.is_static) [] c.params)

    abbrev code_with : Code → List Variable → Option ValueType → Done → List Note → MadePart
    code_with c params result done head = record {
      part = plain.Body (record {
        name = c.name;
        is_static = c.is_static;
        is_synchronized = c.is_synchronized;
        params = params;
        result = result;
        block = done.made;
      });
      notes = head ++ done.notes;
    }

    code-moved : (c : Code) → code_made faces number class (moved_code c) ≡ code_made faces far class c
    code-moved c =
        ap₂ (λ (vs : List Variable) (r : Option ValueType). code_with c vs r (body_done faces number class (moved_code c)) (head_notes faces number (moved_code c)))
        (variables-moved c.params) (result_type-moved c.result)
        ∙ ap₂ (code_with c (map (variable_of far) c.params) (result_type c.result)) (done-moved c) (head-moved c)

    -- ---- the other members

    main_done-moved : (m : Main) → main_done faces number class (moved_main place m) ≡ main_done faces far class m
    main_done-moved m = ap (body (ground_of faces class true) (main_head far m) (main_scope m) 1) (plain-moved_block place number m.body)

    abbrev main_with : Main → Bool → Done → MadePart
    main_with m synchronized done = record {
      part = plain.Body (record {
        name = m.name.text;
        is_static = true;
        is_synchronized = synchronized;
        params = [];
        result = None;
        block = done.made;
      });
      notes = done.notes;
    }

    init-moved : (t : FaceTy) (i : Option Init) → initial t (option_map (moved_init place) i) ≡ initial t i
    init-moved t None = refl
    init-moved t (Some (init.Int w)) = refl
    init-moved t (Some (init.MinusInt at w)) = refl
    init-moved t (Some (init.True at)) = refl
    init-moved t (Some (init.False at)) = refl
    init-moved t (Some (init.Null at)) = refl
    init-moved t (Some (init.Str w)) = refl
    init-moved t (Some (init.NewObject at)) = refl

    init_notes-moved : (t : FaceTy) (i : Option Init) → initial_notes (types_shown faces) number t (option_map (moved_init place) i) ≡ initial_notes (types_shown faces) far t i
    init_notes-moved t None = refl
    init_notes-moved t (Some (init.Int w)) = refl
    init_notes-moved t (Some (init.MinusInt at w)) = refl
    init_notes-moved t (Some (init.True at)) = refl
    init_notes-moved t (Some (init.False at)) = refl
    init_notes-moved t (Some (init.Null at)) = refl
    init_notes-moved t (Some (init.Str w)) = refl
    init_notes-moved t (Some (init.NewObject at)) = refl

    abbrev field_with : ValueType → Initial → List Note → List Note → MadePart
    field_with v i a b = record { part = plain.Field v i; notes = a ++ b }

    field-moved : (f : JavaField) → field_made faces number (moved_field place f) ≡ field_made faces far f
    field-moved f =
        let i = option_map (moved_init place) f.init in
        ap (λ (t : FaceTy). field_with (type_of t) (initial t i) (declared_notes (types_shown faces) (plain_ty number (moved_ty place f.ty))) (initial_notes (types_shown faces) number t i)) (face_ty-moved place f.ty)
        ∙ ap₂ (λ (v : Initial) (notes : List Note). field_with (value_type f.ty) v notes (initial_notes (types_shown faces) number (face_ty f.ty) i)) (init-moved (face_ty f.ty) f.init) (declared-moved (types_shown faces) f.ty)
        ∙ ap (field_with (value_type f.ty) (initial (face_ty f.ty) f.init) (declared_notes (types_shown faces) (plain_ty far f.ty))) (init_notes-moved (face_ty f.ty) f.init)

    abbrev sig_with : List Variable → Option ValueType → List Note → List Note → MadePart
    sig_with vs r a b = record { part = plain.Sig vs r; notes = a ++ b }

    sig-moved : (s : JavaSig) → sig_made faces number (moved_sig place s) ≡ sig_made faces far s
    sig-moved s =
        ap₂ (λ (vs : List Variable) (r : Option ValueType). sig_with vs r (result_notes (types_shown faces) number (option_map (moved_ty place) s.result)) (params_notes (types_shown faces) number 1 [] (moved_params place s.params)))
        (variables-moved s.params) (result_type-moved s.result)
        ∙ ap₂ (sig_with (map (variable_of far) s.params) (result_type s.result)) (result_notes-moved (types_shown faces) s.result) (params-moved (types_shown faces) 1 [] s.params)

    part-moved : (m : MemberTree) → part_made faces number class (moved_member place m) ≡ part_made faces far class m
    part-moved (member.Field f) = field-moved f
    part-moved (member.Method m) = ap (code_made faces number class) (method-moved m) ∙ code-moved (method_code m)
    part-moved (member.Sig s) = sig-moved s
    part-moved (member.Ctor c) = code-moved (constructor_code c)
    part-moved (member.Main m) = ap₂ (main_with m) (synchronized-moved m.mods) (main_done-moved m)

    -- ---- members

    abbrev repeated_with : (key : List ℕ) → List ℕ → Span → ℕ → List Note
    repeated_with key name at n = found_if (not (bytes_eq key (member_key class name (Some n) 1))) code.RepeatedMember (suc (far at))

    repeated-moved : (m : MemberTree) (key : List ℕ) → repeated_notes number class (moved_member place m) key ≡ repeated_notes far class m key
    repeated-moved (member.Field f) key = refl
    repeated-moved (member.Method m) key = ap (repeated_with key (key_name (member.Method m)) m.name.span) (count-moved m.params)
    repeated-moved (member.Sig s) key = ap (repeated_with key (key_name (member.Sig s)) s.name.span) (count-moved s.params)
    repeated-moved (member.Ctor c) key = ap (repeated_with key (key_name (member.Ctor c)) c.name.span) (count-moved c.params)
    repeated-moved (member.Main m) key = refl

    abbrev bound_with : (key : List ℕ) → List ℕ → List Written → MadePart → List Note → Bound
    bound_with key at written made twice = record {
      tree = record { class = class; annotations = at; standing = begun written (standing_at (faces class) key); part = made.part };
      notes = twice ++ made.notes;
    }

    abbrev pub member_bound : (Span → ℕ) → MemberTree → (key : List ℕ) → List Mark → Bound
    member_bound numbers m key marks = record { tree = member_tree faces numbers class m key marks; notes = member_notes faces numbers class m key }

    pub member-moved : (m : MemberTree) (key : List ℕ) (marks : List Mark) → member_bound number (moved_member place m) key marks ≡ member_bound far m key marks
    member-moved m key marks =
        let near = moved_member place m in
        ap (λ (at : List ℕ). bound_with key at (each_at (member_annotation near) marks at) (part_made faces number class near) (repeated_notes number class near key)) (member_begins-moved place number m)
        ∙ ap (λ (ws : List Written). bound_with key (member_begins far m) ws (part_made faces number class near) (repeated_notes number class near key)) (each-moved place m marks (member_begins far m))
        ∙ ap₂ (bound_with key (member_begins far m) (each_at (member_annotation m) marks (member_begins far m))) (part-moved m) (repeated-moved m key)

  -- ---- headers

  words-moved : (ws : List Lexeme) → map (word_of number) (moved_lexemes place ws) ≡ map (word_of far) ws
  words-moved [] = refl
  words-moved (w ∷ ws) = ap (λ (l : List Word). word_of far w ∷ l) (words-moved ws)

  implements-moved : (faces : Faces) (class : Name) (before : List Name) (ws : List Lexeme) → implements_after faces number class before (moved_lexemes place ws) ≡ implements_after faces far class before ws
  implements-moved faces class before [] = refl
  implements-moved faces class before (w ∷ ws) =
      ap (λ (l : List Note). implemented_notes faces class (not (is_among before w.text)) w.text (suc (far w.span)) ++ l) (implements-moved faces class (before ++ w.text ∷ []) ws)

  abbrev header_written : Header → Mark → ℕ → Written
  header_written h m at = record { content = allowed (header_site h.kind) m.tree; param = None; at = at }

  abbrev header_with : Faces → Header → (key : List ℕ) → List Mark → List ℕ → List Word → List Note → Bound
  header_with faces h key marks at words told = record {
    tree = record { class = h.name.text; annotations = at; standing = begun (each_at (header_written h) marks at) (standing_at (faces h.name.text) key); part = plain.Header words };
    notes = told ++ flat_map (annotation_notes faces) (each_at (header_written h) marks at);
  }

  abbrev pub header_bound : Faces → (Span → ℕ) → Header → (key : List ℕ) → List Mark → Bound
  header_bound faces numbers h key marks = header_with faces h key marks (mods_begin numbers h.mods) (map (word_of numbers) h.implements) (implements_after faces numbers h.name.text [] h.implements)

  pub header-moved : (faces : Faces) (h : Header) (key : List ℕ) (marks : List Mark) → header_bound faces number (moved_header place h) key marks ≡ header_bound faces far h key marks
  header-moved faces h key marks =
      ap₂ (λ (at : List ℕ) (ws : List Word). header_with faces h key marks at ws (implements_after faces number h.name.text [] (moved_lexemes place h.implements))) (mods_begin-moved place number h.mods) (words-moved h.implements)
      ∙ ap (header_with faces h key marks (mods_begin far h.mods) (map (word_of far) h.implements)) (implements-moved faces h.name.text [] h.implements)
