-- Each field, method, constructor and type that stands in a bound unit is told by its notes.
use Rattle.std.proofs.Common.{◌≡◌, refl, ℕ, suc, ◌+◌, true, not, List, [], ◌∷◌, ◌++◌, inl, map, length, codes, Option, Some, None}
use Rattle.std.specs.List.{flat_map}
use Rattle.desk_base.specs.declared.span.Span.{Span}
use Rattle.java_tree.specs.declared.file.ClassTree.{ClassTree}
use Rattle.java_tree.specs.declared.member.Field.{Field as JavaField}
use Rattle.java_tree.specs.declared.member.Main.{Main}
use Rattle.java_tree.specs.declared.member.MemberTree.{MemberTree}
use Rattle.java_tree.specs.declared.member.MemberTree.TheVariants as member
use Rattle.java_tree.specs.declared.member.Param.{Param}
use Rattle.java_tree.specs.declared.member.Sig.{Sig as JavaSig}
use Rattle.java_tree.specs.declared.member.Ty.{Ty}
use Rattle.java_tree.specs.declared.member.Ty.TheVariants as ty
use Rattle.java_tree.specs.declared.token.Lexeme.{Lexeme}
use Rattle.class_faces.specs.Faces.{face_ty}
use Rattle.tree_places.specs.Plain.{plain_block, plain_ty}
use Rattle.bound_tree.specs.declared.name.ValueType.{ValueType}
use Rattle.bound_tree.specs.Places.{What}
use Rattle.promise_marks.specs.declared.mark.Mark.{Mark}
use Rattle.name_rules.specs.declared.note.Note.{Note}
use Rattle.name_rules.specs.Types.{Name, Types}
use Rattle.name_rules.specs.Scopes.{Scope, with_entry}
use Rattle.expression_binding.specs.Laws.{IsTold}
use Rattle.statement_binding.specs.DeclaredTypes.{declared_notes}
use Rattle.statement_binding.specs.Initials.{initial_notes}
use Rattle.bound_unit.specs.Names.{Faces}
use Rattle.bound_unit.specs.Asked.{value_names, variable_names, word_name}
use Rattle.bound_unit.specs.Implemented.{is_among}
use Rattle.unit_rules.specs.Headers.{word_of, header_annotations}
use Rattle.unit_rules.specs.Implements.{implemented_notes, implements_after}
use Rattle.unit_rules.specs.Assumed.{annotation_notes}
use Rattle.unit_rules.specs.Shown.{types_shown}
use Rattle.binder.specs.Params.{value_type, result_type, result_notes, variable_of, param_entry, param_notes, params_notes, params_scope}
use Rattle.binder.specs.Members.{Code, method_code, constructor_code, first_param, head_of, body_done, code_body, head_notes, code_notes, main_scope, main_head, main_done, main_body, field_made, sig_made, part_made, repeated_notes}
use Rattle.binder.specs.Trees.{PlainPart, PlainTree}
use Rattle.binder.specs.Trees as plain
use Rattle.binder.specs.Bound.{bound}
use Rattle.binding_laws.proofs.Told.{told-front, told-back}
use Rattle.binding_laws.proofs.Covered.{IsCovered, covered-back}
use Rattle.binding_laws.proofs.EachStatement.{Every, every-both, every-more, ValueEach, value-more, value-every, value-front, StatementEach, statement-more, statement-back}
use Rattle.binding_laws.proofs.CoveredBody.{body-covers}

-- ---- what stands in a part of a unit

abbrev pub ResultEach : (Name → Type 0) → Option ValueType → Type 0
ResultEach N None = Unit {0}
ResultEach N (Some ty) = ValueEach N ty

abbrev pub PartEach : (What → Type 0) → (Name → Type 0) → PlainPart → Type 0
PartEach P N (plain.Header words) = Every N (map word_name words)
PartEach P N (plain.Field ty initial) = ValueEach N ty
PartEach P N (plain.Sig params result) = Every N (flat_map variable_names params) × ResultEach N result
PartEach P N (plain.Body b) = Every N (flat_map variable_names b.params) × ResultEach N b.result × StatementEach P N b.block

abbrev pub TreeEach : List Note → PlainTree → Type 0
TreeEach notes tree = PartEach (IsCovered tree.class notes) (IsTold notes) tree.part

result-more : (N M : Name → Type 0) → ((n : Name) → N n → M n) → (r : Option ValueType) → ResultEach N r → ResultEach M r
result-more N M more None h = tt
result-more N M more (Some ty) h = value-more N M more ty h

part-more : (P Q : What → Type 0) (N M : Name → Type 0) → ((w : What) → P w → Q w) → ((n : Name) → N n → M n) → (x : PlainPart) → PartEach P N x → PartEach Q M x
part-more P Q N M more wider (plain.Header words) h = every-more N M wider (map word_name words) h
part-more P Q N M more wider (plain.Field ty initial) h = value-more N M wider ty h
part-more P Q N M more wider (plain.Sig params result) h = (every-more N M wider (flat_map variable_names params) h.0, result-more N M wider result h.1)
part-more P Q N M more wider (plain.Body b) h =
    (every-more N M wider (flat_map variable_names b.params) h.0, result-more N M wider b.result h.1, statement-more P Q N M more wider b.block h.2)

-- ---- types, parameters and results

module _ (types : Types) (number : Span → ℕ) where
  ty-told : (t : Ty) → ValueEach (IsTold (declared_notes types (plain_ty number t))) (value_type t)
  ty-told (ty.Int at) = tt
  ty-told (ty.Boolean at) = tt
  ty-told (ty.Named w) = inl refl

  result-told : (r : Option Ty) → ResultEach (IsTold (result_notes types number r)) (result_type r)
  result-told None = tt
  result-told (Some t) = ty-told t

  params-told : (n : ℕ) (scope : Scope) (ps : List Param) → Every (IsTold (params_notes types number n scope ps)) (flat_map variable_names (map (variable_of number) ps))
  params-told n scope [] = tt
  params-told n scope (p ∷ ps) =
      let own = param_notes types number scope p in
      let behind = with_entry scope (param_entry n p) in
      let rest = params_notes types number (n + 1) behind ps in
      every-both (IsTold (own ++ rest)) (value_names (value_type p.ty)) (flat_map variable_names (map (variable_of number) ps))
      (value-every (IsTold (own ++ rest)) (value_type p.ty)
      (value-front own rest (value_type p.ty) (value-front (declared_notes types (plain_ty number p.ty)) _ (value_type p.ty) (ty-told p.ty))))
      (every-more (IsTold rest) (IsTold (own ++ rest)) (told-back own rest) (flat_map variable_names (map (variable_of number) ps)) (params-told (n + 1) behind ps))

-- ---- members

module _ (faces : Faces) (number : Span → ℕ) (class : Name) (none : types_shown faces (codes "String") ≡ None) where
  code-covers : (c : Code) → PartEach (IsCovered class (code_notes faces number class c)) (IsTold (code_notes faces number class c)) (plain.Body (code_body faces number class c))
  code-covers c =
      let types = types_shown faces in
      let first = first_param c.is_static in
      let gives = result_notes types number c.result in
      let takes = params_notes types number first [] c.params in
      let head = head_notes faces number c in
      let done = body_done faces number class c in
      let all = code_notes faces number class c in (
        every-more (IsTold takes) (IsTold all) (λ n h. told-front head done.notes n (told-back gives takes n h)) (flat_map variable_names (map (variable_of number) c.params))
            (params-told types number first [] c.params),
        result-more (IsTold gives) (IsTold all) (λ n h. told-front head done.notes n (told-front gives takes n h)) (result_type c.result) (result-told types number c.result),
        statement-back class head done.notes done.made
            (body-covers types class none c.is_static (head_of number c) (params_scope first [] c.params) (first + length c.params) (plain_block number c.block)),
      )

  main-covers : (m : Main) → PartEach (IsCovered class (main_done faces number class m).notes) (IsTold (main_done faces number class m).notes) (plain.Body (main_body faces number class m))
  main-covers m = (tt, tt, body-covers (types_shown faces) class none true (main_head number m) (main_scope m) 1 (plain_block number m.body))

  field-covers : (f : JavaField) → PartEach (IsCovered class (field_made faces number f).notes) (IsTold (field_made faces number f).notes) (field_made faces number f).part
  field-covers f =
      value-front (declared_notes (types_shown faces) (plain_ty number f.ty)) (initial_notes (types_shown faces) number (face_ty f.ty) f.init) (value_type f.ty)
      (ty-told (types_shown faces) number f.ty)

  sig-covers : (s : JavaSig) → PartEach (IsCovered class (sig_made faces number s).notes) (IsTold (sig_made faces number s).notes) (sig_made faces number s).part
  sig-covers s =
      let types = types_shown faces in
      let gives = result_notes types number s.result in
      let takes = params_notes types number 1 [] s.params in (
        every-more (IsTold takes) (IsTold (gives ++ takes)) (told-back gives takes) (flat_map variable_names (map (variable_of number) s.params)) (params-told types number 1 [] s.params),
        result-more (IsTold gives) (IsTold (gives ++ takes)) (told-front gives takes) (result_type s.result) (result-told types number s.result),
      )

  part-covers : (m : MemberTree) → PartEach (IsCovered class (part_made faces number class m).notes) (IsTold (part_made faces number class m).notes) (part_made faces number class m).part
  part-covers (member.Field f) = field-covers f
  part-covers (member.Method m) = code-covers (method_code m)
  part-covers (member.Sig s) = sig-covers s
  part-covers (member.Ctor c) = code-covers (constructor_code c)
  part-covers (member.Main m) = main-covers m

  member-covers : (m : MemberTree) (key : List ℕ) → PartEach (IsCovered class (repeated_notes number class m key ++ (part_made faces number class m).notes)) (IsTold (repeated_notes number class m key ++ (part_made faces number class m).notes)) (part_made faces number class m).part
  member-covers m key =
      let twice = repeated_notes number class m key in
      let notes = (part_made faces number class m).notes in
      part-more (IsCovered class notes) (IsCovered class (twice ++ notes)) (IsTold notes) (IsTold (twice ++ notes)) (covered-back class twice notes) (told-back twice notes)
      (part_made faces number class m).part (part-covers m)

-- ---- headers

words-told : (faces : Faces) (number : Span → ℕ) (class : Name) (before : List Name) (ws : List Lexeme)
    → Every (IsTold (implements_after faces number class before ws)) (map word_name (map (word_of number) ws))
words-told faces number class before [] = tt
words-told faces number class before (w ∷ ws) =
    let own = implemented_notes faces class (not (is_among before w.text)) w.text (suc (number w.span)) in
    let rest = implements_after faces number class (before ++ w.text ∷ []) ws in (
      told-front own rest w.text (inl refl),
      every-more (IsTold rest) (IsTold (own ++ rest)) (told-back own rest) (map word_name (map (word_of number) ws)) (words-told faces number class (before ++ w.text ∷ []) ws),
    )

-- ---- units

pub bound-covers : (faces : Faces) (number : Span → ℕ) (class : ClassTree) (m : Option MemberTree) (key : List ℕ) (marks : List Mark) → types_shown faces (codes "String") ≡ None
    → TreeEach (bound faces number class m key marks).notes (bound faces number class m key marks).tree
bound-covers faces number class None key marks none =
    let told = implements_after faces number class.name.text [] class.implements in
    let more = flat_map (annotation_notes faces) (header_annotations number class marks) in
    every-more (IsTold told) (IsTold (told ++ more)) (told-front told more) (map word_name (map (word_of number) class.implements))
    (words-told faces number class.name.text [] class.implements)
bound-covers faces number class (Some m) key marks none = member-covers faces number class.name.text none m key
