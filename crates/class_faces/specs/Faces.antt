-- What other units see of the fields and members of a class.
use Rattle.std.specs.Prelude.{◌≡◌, ℕ, ◌+◌, List, [], ◌∷◌, ◌++◌, map, Bool, true, false, ◌&&◌, not, Option, Some, None, codes}
use Rattle.std.specs.List.{list_any}
use Rattle.std.specs.Option.{option_map, option_to_list, is_some}
use Rattle.std.specs.Str.{bytes_eq}
use Rattle.std.specs.BTreeSet.{BTreeSet}
use Rattle.java_tree.specs.declared.file.ClassTree.{ClassTree}
use Rattle.java_tree.specs.declared.member.Ty.{Ty}
use Rattle.java_tree.specs.declared.member.Ty.TheVariants as ty
use Rattle.java_tree.specs.declared.member.Mod.{Mod}
use Rattle.java_tree.specs.declared.member.Mod.TheVariants as modifier
use Rattle.java_tree.specs.declared.member.ModWord.TheVariants as modword
use Rattle.java_tree.specs.declared.member.Init.{Init}
use Rattle.java_tree.specs.declared.member.Init.TheVariants as init
use Rattle.java_tree.specs.declared.member.Field.{Field}
use Rattle.java_tree.specs.declared.member.Param.{Param}
use Rattle.java_tree.specs.declared.member.Sig.{Sig}
use Rattle.java_tree.specs.declared.token.Lexeme.{Lexeme}
use Rattle.java_tree.specs.declared.member.MemberTree.{MemberTree}
use Rattle.java_tree.specs.declared.member.MemberTree.TheVariants as member
use Rattle.class_faces.specs.declared.face.FaceTy.{FaceTy}
use Rattle.class_faces.specs.declared.face.FaceTy.TheVariants as face
use Rattle.class_faces.specs.declared.face.FieldFace.{FieldFace}
use Rattle.class_faces.specs.declared.face.ParamFace.{ParamFace}
use Rattle.class_faces.specs.declared.face.MemberFace.{MemberFace}
use Rattle.class_faces.specs.Assigned.{Names, is_among, has_name, block_names}
use Rattle.class_faces.specs.Keys.{slot_of, key_with, times}

abbrev pub face_ty : Ty → FaceTy
face_ty (ty.Int at) = face.Int
face_ty (ty.Boolean at) = face.Bool
face_ty (ty.Named word) = face.Named word.text

abbrev pub is_static_word : Mod → Bool
is_static_word (modifier.Word modword.Static at) = true
is_static_word _ = false

abbrev pub is_final_word : Mod → Bool
is_final_word (modifier.Word modword.Final at) = true
is_final_word _ = false

-- the modifiers have the word `static`, or `final`
abbrev pub is_static : List Mod → Bool
is_static mods = list_any is_static_word mods

abbrev pub is_final : List Mod → Bool
is_final mods = list_any is_final_word mods

abbrev pub is_object : Ty → Bool
is_object (ty.Int at) = false
is_object (ty.Boolean at) = false
is_object (ty.Named word) = bytes_eq word.text (codes "Object")

-- the initializer is `new Object()`
abbrev pub is_fresh : Option Init → Bool
is_fresh (Some (init.NewObject at)) = true
is_fresh _ = false

abbrev pub field_face : Field → FieldFace
field_face f = record {
  name = f.name.text;
  ty = face_ty f.ty;
  is_static = is_static f.mods;
  is_final = is_final f.mods;
  final_init = is_final f.mods && is_some f.init;
  lock_form = is_final f.mods && (is_object f.ty && is_fresh f.init);
}

abbrev pub field_of : MemberTree → List FieldFace
field_of (member.Field f) = field_face f ∷ []
field_of _ = []

-- the fields among members, in written order
abbrev pub fields_of : List MemberTree → List FieldFace
fields_of [] = []
fields_of (m ∷ ms) = field_of m ++ fields_of ms

-- the fields of a class, in written order
abbrev pub field_faces : ClassTree → List FieldFace
field_faces class = fields_of class.members

-- a parameter of a member whose body assigns to these names
abbrev pub param_face : Names → Param → ParamFace
param_face assigned p = record { name = p.name.text; ty = face_ty p.ty; effectively_final = not (is_among p.name.text assigned) }

-- the parameter of a main
abbrev pub main_face : Lexeme → ParamFace
main_face word = record { name = word.text; ty = face.Args; effectively_final = true }

-- an interface method under its key
abbrev pub sig_face : List ℕ → Sig → Option MemberFace
sig_face key s = Some (record {
  key = key;
  params = map (param_face []) s.params;
  result = option_map face_ty s.result;
  is_static = is_static s.mods;
})

-- a member under its key; a field isn't one
abbrev pub face_of : List ℕ → MemberTree → Option MemberFace
face_of key (member.Field f) = None
face_of key (member.Method m) = Some (record {
  key = key;
  params = map (param_face (block_names m.body)) m.params;
  result = option_map face_ty m.result;
  is_static = is_static m.mods;
})
face_of key (member.Sig s) = sig_face key s
face_of key (member.Ctor c) = Some (record {
  key = key;
  params = map (param_face (block_names c.body)) c.params;
  result = None;
  is_static = false;
})
face_of key (member.Main m) = Some (record {
  key = key;
  params = main_face m.param ∷ [];
  result = None;
  is_static = true;
})

-- the faces of members that come after members with these slots
abbrev pub faces_after : List ℕ → List (List ℕ) → List MemberTree → List MemberFace
faces_after class slots [] = []
faces_after class slots (m ∷ ms) =
    option_to_list (face_of (key_with class m (times slots (slot_of m) + 1)) m) ++ faces_after class (slots ++ slot_of m ∷ []) ms

-- the methods, interface methods, constructors and mains of a class, in written order
abbrev pub member_faces : ClassTree → List MemberFace
member_faces class = faces_after class.name.text [] class.members

-- the set has these names and no others
pub record Holds (set : BTreeSet (List ℕ)) (names : Names) : Type 0 where
  pub holds : (name : List ℕ) → has_name set name ≡ is_among name names

-- the parameters that names in a member's promises mean; that of a main isn't one
abbrev pub named_params : MemberTree → List ParamFace
named_params (member.Field f) = []
named_params (member.Method m) = map (param_face (block_names m.body)) m.params
named_params (member.Sig s) = map (param_face []) s.params
named_params (member.Ctor c) = map (param_face (block_names c.body)) c.params
named_params (member.Main m) = []
