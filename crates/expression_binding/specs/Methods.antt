-- Which method, main or constructor a call or `new` names: the first one of its name and number of
-- arguments, whatever these are.
use Rattle.std.specs.Prelude.{ℕ, ◌==◌, Bool, false, ◌&&◌, ◌||◌, if◌then◌else◌, List, [], ◌∷◌, ◌++◌, codes, length, Option, Some, None}
use Rattle.std.specs.Option.{is_some, option_copied}
use Rattle.std.specs.Str.{bytes_eq}
use Rattle.class_faces.specs.declared.face.FaceTy.{FaceTy}
use Rattle.class_faces.specs.declared.face.ParamFace.{ParamFace}
use Rattle.class_faces.specs.declared.face.MemberFace.{MemberFace}
use Rattle.bound_tree.specs.declared.name.MemberName.{MemberName}
use Rattle.name_rules.specs.declared.note.Note.{Note}
use Rattle.name_rules.specs.declared.note.Note.TheVariants.{Names}
use Rattle.name_rules.specs.Types.{Name, Types, is_runnable, is_object, is_class, member_key, member_in, maker_in}
use Rattle.name_rules.specs.Notes.{calls}
use Rattle.expression_binding.specs.declared.method.NamedMethod as written

-- a method, an interface's method or a main, with the type by which it was found
pub record NamedMethod : Type 0 where
  pub named : MemberName
  pub params : List ParamFace
  pub result : Option FaceTy
  pub is_static : Bool

abbrev pub shown_method : written.NamedMethod → NamedMethod
shown_method m = record { named = m.named; params = m.params.now; result = option_copied m.result; is_static = m.is_static }

abbrev pub shown_found : Option written.NamedMethod → Option NamedMethod
shown_found None = None
shown_found (Some m) = Some (shown_method m)

abbrev pub member_name : Name → Name → Bool → MemberName
member_name c name has_result = record { class = c; name = name; has_result = has_result }

abbrev pub named_method : Name → Name → MemberFace → NamedMethod
named_method c name m = record { named = member_name c name (is_some m.result); params = m.params; result = m.result; is_static = m.is_static }

abbrev pub face_method : Name → Name → Option MemberFace → Option NamedMethod
face_method c name None = None
face_method c name (Some m) = Some (named_method c name m)

-- the one method of Runnable, which stands in no file
abbrev pub is_run : Name → Name → ℕ → Bool
is_run c name count = is_runnable c && (bytes_eq name (codes "run") && (count == 0))

abbrev pub run_method : Name → Name → NamedMethod
run_method c name = record { named = member_name c name false; params = []; result = None; is_static = false }

abbrev pub method_in : Types → Name → Name → ℕ → Option NamedMethod
method_in types c name count =
    if is_run c name count then Some (run_method c name) else face_method c name (member_in (member_key c name count) (types c))

-- nothing but an object or a type has methods
abbrev pub method_named : Types → Option Name → Name → ℕ → Option NamedMethod
method_named types None name count = None
method_named types (Some c) name count = method_in types c name count

abbrev pub method_params : Option NamedMethod → List ParamFace
method_params None = []
method_params (Some m) = m.params

-- a method that is called with so many arguments is consulted, with the types of its parameters and
-- result
abbrev pub method_notes : ℕ → Option NamedMethod → List Note
method_notes count None = []
method_notes count (Some m) = calls m.named.class m.named.name count m.params m.result

-- ---- `new`: a class has the first of its constructors, or one without parameters where it declares
-- none; so has Object, and nothing else

abbrev pub maker : Types → Name → Option MemberFace
maker types c = maker_in c (types c)

abbrev pub maker_params : Option MemberFace → List ParamFace
maker_params None = []
maker_params (Some m) = m.params

-- the class stands as a type in any case; a constructor with so many parameters is asked for, whether
-- there is one or not
abbrev pub made_notes : Name → ℕ → Option MemberFace → List Note
made_notes c count found = Names c ∷ calls c (codes "new") count (maker_params found) None

abbrev pub is_makeable : Types → Name → Bool
is_makeable types c = is_object c || is_class types c

abbrev pub is_made : Types → Name → ℕ → Bool
is_made types c count = is_makeable types c && (length (maker_params (maker types c)) == count)

-- the constructor that is called, where there is one
abbrev pub made_by : Types → Name → ℕ → Option MemberFace
made_by types c count = if is_made types c count then maker types c else None
