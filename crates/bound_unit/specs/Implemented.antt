-- Which methods of interfaces a method of a class implements.
use Rattle.std.specs.Prelude.{ℕ, Bool, true, false, ◌&&◌, not, List, [], ◌∷◌, ◌++◌, length, Option, Some, None, flat_map, if◌then◌else◌}
use Rattle.std.specs.List.{list_any}
use Rattle.std.specs.Option.{option_eq}
use Rattle.std.specs.Str.{bytes_eq}
use Rattle.bound_tree.specs.declared.unit.BoundTree.{BoundTree}
use Rattle.bound_tree.specs.declared.unit.Part.{Part}
use Rattle.bound_tree.specs.declared.unit.Part.TheVariants as part
use Rattle.class_faces.specs.Same.{same_ty}
use Rattle.class_faces.specs.declared.face.ParamFace.{ParamFace}
use Rattle.class_faces.specs.declared.face.MemberFace.{MemberFace}
use Rattle.views.specs.declared.kind.FaceKind.{FaceKind}
use Rattle.views.specs.declared.kind.FaceKind.TheVariants as kind
use Rattle.views.specs.Looks.{kind_in, interfaces_in, member_in, member_key}
use Rattle.bound_unit.specs.Names.{Name, Faces}

-- a method of an interface
pub record Above : Type 0 where
  pub interface : Name
  pub member : MemberFace

-- one of the names is this one
abbrev pub is_among : List Name → Name → Bool
is_among names n = list_any (λ m. bytes_eq n m) names

-- each name once, at its first place: those that aren't among the ones before them
abbrev pub new_names : (before : List Name) → List Name → List Name
new_names before [] = []
new_names before (n ∷ ns) = if is_among before n then new_names (before ++ n ∷ []) ns else n ∷ new_names (before ++ n ∷ []) ns

abbrev pub each_once : List Name → List Name
each_once names = new_names [] names

abbrev pub is_class_kind : Option FaceKind → Bool
is_class_kind (Some kind.Class) = true
is_class_kind _ = false

-- Runnable counts as an interface
abbrev pub is_interface_kind : Option FaceKind → Bool
is_interface_kind (Some kind.Interface) = true
is_interface_kind (Some kind.Runnable) = true
is_interface_kind _ = false

abbrev pub same_params : List ParamFace → List ParamFace → Bool
same_params [] [] = true
same_params [] (q ∷ qs) = false
same_params (p ∷ ps) [] = false
same_params (p ∷ ps) (q ∷ qs) = same_ty p.ty q.ty && same_params ps qs

-- equal types of parameters and results
abbrev pub same_shape : MemberFace → MemberFace → Bool
same_shape m other = same_params m.params other.params && option_eq same_ty m.result other.result

abbrev pub above_if : Name → MemberFace → Option MemberFace → List Above
above_if interface m None = []
above_if interface m (Some other) = if same_shape m other then record { interface = interface; member = other } ∷ [] else []

-- the interface's method that the method, which has the name and so many parameters, implements
abbrev pub above_in : Faces → MemberFace → Name → ℕ → Name → List Above
above_in faces m name count interface =
    if is_interface_kind (kind_in (faces interface)) then above_if interface m (member_in (faces interface) (member_key interface name count)) else []

-- those of a class's method that isn't static, in the written order of the interfaces, each once
abbrev pub above_member : Faces → Name → Name → ℕ → Option MemberFace → List Above
above_member faces class name count None = []
above_member faces class name count (Some m) =
    if not m.is_static && is_class_kind (kind_in (faces class)) then flat_map (above_in faces m name count) (each_once (interfaces_in (faces class))) else []

-- The first method of its name and number of parameters implements them; another one none.
abbrev pub above_unit : Faces → Name → (key : List ℕ) → Name → ℕ → List Above
above_unit faces class key name count =
    if bytes_eq key (member_key class name count) then above_member faces class name count (member_in (faces class) key) else []

abbrev pub above_part : Faces → Name → (key : List ℕ) → Part → List Above
above_part faces class key (part.Header names) = []
above_part faces class key (part.Field ty initial) = []
above_part faces class key (part.Sig params result) = []
above_part faces class key (part.Body b) = above_unit faces class key b.name (length b.params)

-- Implemented: the methods of interfaces that the unit of a key implements.
abbrev pub implemented : Faces → (key : List ℕ) → BoundTree → List Above
implemented faces key tree = above_part faces tree.class key tree.part
