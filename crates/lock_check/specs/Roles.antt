-- What a unit is to the rules that ask for no place in its code.
use Rattle.std.specs.Prelude.{ℕ, ◌+◌, ◌&&◌, Bool, false, List, [], ◌∷◌, map, drop, length, is_some, if◌then◌else◌}
use Rattle.desk_base.specs.declared.key.PromiseKey.{PromiseKey}
use Rattle.desk_base.specs.declared.key.PromiseName.TheVariants as kind
use Rattle.class_faces.specs.declared.face.ParamFace.{ParamFace}
use Rattle.bound_tree.specs.declared.unit.BoundTree.{BoundTree}
use Rattle.bound_tree.specs.declared.unit.Part.{Part}
use Rattle.bound_tree.specs.declared.unit.Part.TheVariants as part
use Rattle.views.specs.Looks.{field_in, standing_in}
use Rattle.lock_findings.specs.declared.role.Above.{Above}
use Rattle.lock_findings.specs.declared.role.Role.{Role}
use Rattle.lock_findings.specs.declared.role.Role.TheVariants as role
use Rattle.bound_unit.specs.Implemented.{implemented}
use Rattle.bound_unit.specs.Implemented.{Above as Method}
use Rattle.bound_unit.specs.Names.{Name, Faces, is_args}
use Rattle.lock_check.specs.Needs.{needs_at, params_at}

-- ---- methods

-- a method of an interface, with what it requires
abbrev pub above_of : Faces → Method → Above
above_of faces m = record { interface = m.interface; needs = needs_at faces m.interface m.member.key }

abbrev pub aboves : Faces → (key : List ℕ) → BoundTree → List Above
aboves faces key tree = map (above_of faces) (implemented faces key tree)

-- of all members a main alone has the parameter of a main
abbrev pub is_main : List ParamFace → Bool
is_main [] = false
is_main (p ∷ ps) = is_args p.ty

-- ---- fields

-- a field's name in its key, behind the class and the dot; a repeated field has no field of that name
abbrev pub field_word : Name → (key : List ℕ) → Name
field_word class key = drop (length class + 1) key

abbrev pub unique_value : List ℕ → PromiseKey
unique_value key = record { target = key; name = kind.Unique; detail = [] }

abbrev pub field_role : Faces → Name → (key : List ℕ) → Role
field_role faces class key =
    if is_some (standing_in (faces class) (unique_value key)) && is_some (field_in (faces class) (field_word class key))
    then role.UniqueField class (field_word class key) (unique_value key) else role.Plain

-- ---- the unit

abbrev pub method_role : Faces → (key : List ℕ) → BoundTree → Role
method_role faces key tree = if is_main (params_at faces tree.class key) then role.Main else role.Method (aboves faces key tree)

abbrev pub part_role : Faces → (key : List ℕ) → BoundTree → Part → Role
part_role faces key tree (part.Header names) = role.Plain
part_role faces key tree (part.Field ty initial) = field_role faces tree.class key
part_role faces key tree (part.Sig params result) = role.Plain
part_role faces key tree (part.Body b) = method_role faces key tree

abbrev pub role_of : Faces → (key : List ℕ) → BoundTree → Role
role_of faces key tree = part_role faces key tree tree.part
