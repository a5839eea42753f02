-- A member of a class or interface, bound: by cases of the member.
use Rattle.std.specs.Prelude.{ℕ, suc, ◌+◌, Bool, true, false, not, if◌then◌else◌, List, [], ◌∷◌, ◌++◌, length, map, codes, Option, None}
use Rattle.std.specs.List.{list_any}
use Rattle.std.specs.Option.{option_copied}
use Rattle.std.specs.Str.{bytes_eq}
use Rattle.desk_base.specs.declared.span.Span.{Span}
use Rattle.java_tree.specs.declared.member.Ctor.{Ctor}
use Rattle.java_tree.specs.declared.member.Field.{Field as JavaField}
use Rattle.java_tree.specs.declared.member.Main.{Main}
use Rattle.java_tree.specs.declared.member.MemberTree.{MemberTree}
use Rattle.java_tree.specs.declared.member.MemberTree.TheVariants as member
use Rattle.java_tree.specs.declared.member.Method.{Method}
use Rattle.java_tree.specs.declared.member.Mod.{Mod}
use Rattle.java_tree.specs.declared.member.Mod.TheVariants as modifier
use Rattle.java_tree.specs.declared.member.ModWord.TheVariants as modword
use Rattle.java_tree.specs.declared.member.Param.{Param}
use Rattle.java_tree.specs.declared.member.Sig.{Sig as JavaSig}
use Rattle.java_tree.specs.declared.member.Ty.{Ty}
use Rattle.java_tree.specs.declared.stmt.Block.{Block}
use Rattle.class_faces.specs.Faces.{face_ty, is_static}
use Rattle.class_faces.specs.Keys.{key_with}
use Rattle.tree_places.specs.Plain.{plain_block, plain_ty}
use Rattle.promise_marks.specs.declared.mark.Mark.{Mark}
use Rattle.result_records.specs.declared.code.FindingCode.TheVariants as code
use Rattle.views.specs.Looks.{standing_at}
use Rattle.name_rules.specs.declared.note.Note.{Note}
use Rattle.name_rules.specs.Notes.{found_if}
use Rattle.name_rules.specs.Scopes.{Scope}
use Rattle.expression_binding.specs.Bound.{Ground, grounded}
use Rattle.statement_binding.specs.Bodies.{Head, body}
use Rattle.statement_binding.specs.DeclaredTypes.{declared_notes}
use Rattle.statement_binding.specs.Done.{Done}
use Rattle.statement_binding.specs.Initials.{initial, initial_notes}
use Rattle.bound_unit.specs.Names.{Name, Faces}
use Rattle.unit_rules.specs.Annotations.{member_begins}
use Rattle.unit_rules.specs.Given.{begun, each_at, member_annotation}
use Rattle.unit_rules.specs.Shown.{types_shown}
use Rattle.binder.specs.declared.code.Code.{Code as KeptCode}
use Rattle.binder.specs.Params.{params_notes, params_scope, result_face, result_notes, result_type, value_type, variable_of}
use Rattle.binder.specs.Trees.{PlainBody, PlainPart, PlainTree}
use Rattle.binder.specs.Trees as t

-- a part of a unit that is bound, and what is told of it
pub record MadePart : Type 0 where
  pub part : PlainPart
  pub notes : List Note

-- ---- members with code

-- what methods and constructors have: the name (`new` of a constructor) and its place, whether it is
-- static, synchronized or a constructor, the result's type, the parameters and the body
pub record Code : Type 0 where
  pub name : Name
  pub at : Span
  pub is_static : Bool
  pub is_synchronized : Bool
  pub is_constructor : Bool
  pub result : Option Ty
  pub params : List Param
  pub block : Block

abbrev pub is_synchronized_word : Mod → Bool
is_synchronized_word (modifier.Word modword.Synchronized at) = true
is_synchronized_word _ = false

abbrev pub is_synchronized : List Mod → Bool
is_synchronized mods = list_any is_synchronized_word mods

abbrev pub method_code : Method → Code
method_code m = record {
  name = m.name.text;
  at = m.name.span;
  is_static = is_static m.mods;
  is_synchronized = is_synchronized m.mods;
  is_constructor = false;
  result = m.result;
  params = m.params;
  block = m.body;
}

abbrev pub constructor_code : Ctor → Code
constructor_code c = record {
  name = codes "new";
  at = c.name.span;
  is_static = false;
  is_synchronized = false;
  is_constructor = true;
  result = None;
  params = c.params;
  block = c.body;
}

-- `this` is local 0 where there is one, and the parameters follow
abbrev pub first_param : Bool → ℕ
first_param is_static = if is_static then 0 else 1

abbrev pub ground_of : Faces → Name → Bool → Ground
ground_of faces class is_static = grounded (types_shown faces) class is_static

abbrev pub head_of : (Span → ℕ) → Code → Head
head_of number c = record { result = result_face c.result; is_constructor = c.is_constructor; name_at = suc (number c.at) }

abbrev pub body_done : Faces → (Span → ℕ) → Name → Code → Done
body_done faces number class c =
    body (ground_of faces class c.is_static) (head_of number c) (params_scope (first_param c.is_static) [] c.params)
    (first_param c.is_static + length c.params) (plain_block number c.block)

abbrev pub code_body : Faces → (Span → ℕ) → Name → Code → PlainBody
code_body faces number class c = record {
  name = c.name;
  is_static = c.is_static;
  is_synchronized = c.is_synchronized;
  params = map (variable_of number) c.params;
  result = result_type c.result;
  block = (body_done faces number class c).made;
}

abbrev pub head_notes : Faces → (Span → ℕ) → Code → List Note
head_notes faces number c =
    result_notes (types_shown faces) number c.result ++ params_notes (types_shown faces) number (first_param c.is_static) [] c.params

abbrev pub code_notes : Faces → (Span → ℕ) → Name → Code → List Note
code_notes faces number class c = head_notes faces number c ++ (body_done faces number class c).notes

abbrev pub code_made : Faces → (Span → ℕ) → Name → Code → MadePart
code_made faces number class c = record { part = t.Body (code_body faces number class c); notes = code_notes faces number class c }

-- ---- a main, whose parameter is local 0 and no name of its body; it hides what its name would name

abbrev pub main_scope : Main → Scope
main_scope m = record { name = m.param.text; variable = None } ∷ []

abbrev pub main_head : (Span → ℕ) → Main → Head
main_head number m = record { result = None; is_constructor = false; name_at = suc (number m.name.span) }

abbrev pub main_done : Faces → (Span → ℕ) → Name → Main → Done
main_done faces number class m = body (ground_of faces class true) (main_head number m) (main_scope m) 1 (plain_block number m.body)

abbrev pub main_body : Faces → (Span → ℕ) → Name → Main → PlainBody
main_body faces number class m = record {
  name = m.name.text;
  is_static = true;
  is_synchronized = is_synchronized m.mods;
  params = [];
  result = None;
  block = (main_done faces number class m).made;
}

abbrev pub main_part : Faces → (Span → ℕ) → Name → Main → PlainPart
main_part faces number class m = t.Body (main_body faces number class m)

-- ---- the parts of members

abbrev pub field_made : Faces → (Span → ℕ) → JavaField → MadePart
field_made faces number f = record {
  part = t.Field (value_type f.ty) (initial (face_ty f.ty) f.init);
  notes = declared_notes (types_shown faces) (plain_ty number f.ty) ++ initial_notes (types_shown faces) number (face_ty f.ty) f.init;
}

abbrev pub sig_made : Faces → (Span → ℕ) → JavaSig → MadePart
sig_made faces number s = record {
  part = t.Sig (map (variable_of number) s.params) (result_type s.result);
  notes = result_notes (types_shown faces) number s.result ++ params_notes (types_shown faces) number 1 [] s.params;
}

abbrev pub part_made : Faces → (Span → ℕ) → Name → MemberTree → MadePart
part_made faces number class (member.Field f) = field_made faces number f
part_made faces number class (member.Method m) = code_made faces number class (method_code m)
part_made faces number class (member.Sig s) = sig_made faces number s
part_made faces number class (member.Ctor c) = code_made faces number class (constructor_code c)
part_made faces number class (member.Main m) = record { part = main_part faces number class m; notes = (main_done faces number class m).notes }

-- ---- members

abbrev pub name_place : MemberTree → Span
name_place (member.Field f) = f.name.span
name_place (member.Method m) = m.name.span
name_place (member.Sig s) = s.name.span
name_place (member.Ctor c) = c.name.span
name_place (member.Main m) = m.name.span

-- a second field of a name, method of a name and number of parameters, or constructor has not the key
-- that the first has
abbrev pub repeated_notes : (Span → ℕ) → Name → MemberTree → (key : List ℕ) → List Note
repeated_notes number class m key = found_if (not (bytes_eq key (key_with class m 1))) code.RepeatedMember (suc (number (name_place m)))

abbrev pub member_tree : Faces → (Span → ℕ) → Name → MemberTree → (key : List ℕ) → List Mark → PlainTree
member_tree faces number class m key marks = record {
  class = class;
  annotations = member_begins number m;
  standing = begun (each_at (member_annotation m) marks (member_begins number m)) (standing_at (faces class) key);
  part = (part_made faces number class m).part;
}

abbrev pub member_notes : Faces → (Span → ℕ) → Name → MemberTree → (key : List ℕ) → List Note
member_notes faces number class m key = repeated_notes number class m key ++ (part_made faces number class m).notes

-- ---- in the program

abbrev pub code_as : KeptCode → Code
code_as c = record {
  name = c.name.now;
  at = c.at;
  is_static = c.is_static;
  is_synchronized = c.is_synchronized;
  is_constructor = c.is_constructor;
  result = option_copied c.result;
  params = c.params.now;
  block = c.block.now;
}
