-- The numbers of a program's names: classes and interfaces in order of name, fields in written order among those of their kind,
-- names of members and texts in the order in which they are first seen.
use Rattle.std.specs.Prelude.{ℕ, ◌==◌, Bool, List, [], ◌∷◌, ◌++◌, Option, Some, None, codes, map, filter, flat_map}
use Rattle.std.specs.List.{after_first, before_first, position_from}
use Rattle.std.specs.Str.{bytes_eq}
use Rattle.core_model.specs.Operators.{same_bool}
use Rattle.class_faces.specs.declared.face.FieldFace.{FieldFace}
use Rattle.class_faces.specs.declared.face.MemberFace.{MemberFace}
use Rattle.promise_scrub.specs.declared.surface.Surface.{Surface}
use Rattle.views.specs.Face.{surface_named}
use Rattle.views.specs.Looks.{field_named}
use Rattle.bound_unit.specs.UnitFacts.{UnitFacts}
use Rattle.lowering.specs.Numbers.{Numbers, or_zero}
use Rattle.program_maker.specs.Seen.{Name, place_of, first_seen}
use Rattle.program_maker.specs.Texts.{unit_texts}

-- ---- classes

abbrev pub class_is : Name → Surface → Bool
class_is name s = bytes_eq s.name name

-- the place of the first class or interface of the name
abbrev pub class_place : List Surface → Name → Option ℕ
class_place surfaces name = position_from (class_is name) 0 surfaces

-- ---- fields

abbrev pub field_is : Name → FieldFace → Bool
field_is name f = bytes_eq f.name name

-- the static fields, or the others
abbrev pub faces_of_kind : Bool → List FieldFace → List FieldFace
faces_of_kind static fields = filter (λ (f : FieldFace). same_bool static f.is_static) fields

abbrev pub place_of_field : List FieldFace → Name → Option FieldFace → Option ℕ
place_of_field fields name None = None
place_of_field fields name (Some f) = position_from (field_is name) 0 (faces_of_kind f.is_static fields)

-- the place of the first field of the name among those of its kind
abbrev pub field_place : List FieldFace → Name → Option ℕ
field_place fields name = place_of_field fields name (field_named fields name)

abbrev pub place_in_class : Option Surface → Name → Option ℕ
place_in_class None name = None
place_in_class (Some s) name = field_place s.fields name

-- ---- members

-- the name in a member's key, which is written `C.m/2`
abbrev pub member_name : Name → Name
member_name key = before_first (λ b. b == 47) (after_first (λ b. b == 46) key)

abbrev pub name_of_member : MemberFace → Name
name_of_member m = member_name m.key

abbrev pub names_of_members : Surface → List Name
names_of_members s = map name_of_member s.members

-- the names that every program has
abbrev pub standing_names : List Name
standing_names = codes "new" ∷ codes "main" ∷ codes "run" ∷ []

-- the names of a program's members, over the classes in order and their members in written order
abbrev pub member_names : List Surface → List Name
member_names surfaces = first_seen (standing_names ++ flat_map names_of_members surfaces)

-- ---- texts

-- the texts of the units, in order
abbrev pub texts_of : List UnitFacts → List Name
texts_of units = first_seen (flat_map unit_texts units)

-- ---- all of them

abbrev pub numbers_of : List Surface → List UnitFacts → Numbers
numbers_of surfaces units = record {
  class = class_place surfaces;
  field = λ (c f : Name). or_zero (place_in_class (surface_named surfaces c) f);
  member = λ (m : Name). or_zero (place_of (member_names surfaces) m);
  text = λ (t : Name). or_zero (place_of (texts_of units) t);
}
