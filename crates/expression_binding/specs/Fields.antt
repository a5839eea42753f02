-- A field that is named, with the type whose it is.
use Rattle.std.specs.Prelude.{Bool, Option, Some, None, List}
use Rattle.class_faces.specs.declared.face.FaceTy.{FaceTy}
use Rattle.class_faces.specs.declared.face.FieldFace.{FieldFace}
use Rattle.bound_tree.specs.declared.name.FieldName.{FieldName}
use Rattle.name_rules.specs.Types.{Name, Types, field_of}
use Rattle.expression_binding.specs.declared.field.NamedField as written

pub record NamedField : Type 0 where
  pub named : FieldName
  pub ty : FaceTy
  pub is_static : Bool

abbrev pub shown_field : written.NamedField → NamedField
shown_field f = record { named = f.named; ty = f.ty.now; is_static = f.is_static }

abbrev pub shown_found : Option written.NamedField → Option NamedField
shown_found None = None
shown_found (Some f) = Some (shown_field f)

abbrev pub field_name : Name → FieldFace → FieldName
field_name c f = record { class = c; name = f.name; is_final = f.is_final; is_lock = f.lock_form }

abbrev pub named_field : Name → FieldFace → NamedField
named_field c f = record { named = field_name c f; ty = f.ty; is_static = f.is_static }

abbrev pub face_field : Name → Option FieldFace → Option NamedField
face_field c None = None
face_field c (Some f) = Some (named_field c f)

-- the first of its name; nothing but an object or a type has fields
abbrev pub field_named : Types → Option Name → Name → Option NamedField
field_named types None name = None
field_named types (Some c) name = face_field c (field_of types c name)
