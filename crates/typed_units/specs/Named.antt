-- What the names in an expression name.
use Rattle.std.specs.Prelude.{◌≡◌, ℕ, Bool, true, Option, Some, None, is_some}
use Rattle.class_faces.specs.declared.face.FaceTy.{FaceTy}
use Rattle.class_faces.specs.declared.face.FieldFace.{FieldFace}
use Rattle.bound_tree.specs.declared.name.ValueType.{ValueType}
use Rattle.bound_tree.specs.declared.name.FieldName.{FieldName}
use Rattle.bound_tree.specs.declared.name.MemberName.{MemberName}
use Rattle.name_rules.specs.Types.{Types, is_known, field_of}
use Rattle.expression_binding.specs.Stamps.{type_of, type_given}
use Rattle.expression_binding.specs.Fields.{field_name}
use Rattle.expression_binding.specs.Methods.{NamedMethod, method_in}

abbrev pub is_known_result : Types → Option FaceTy → Bool
is_known_result types None = true
is_known_result types (Some ty) = is_known types ty

-- the first field of its name in its class is of this kind and type
pub record IsField (types : Types) (is_static : Bool) (named : FieldName) (ty : Option ValueType) : Type 0 where
  pub field : FieldFace
  pub found : field_of types named.class named.name ≡ Some field
  pub is : named ≡ field_name named.class field
  pub kind : field.is_static ≡ is_static
  pub gives : ty ≡ Some (type_of field.ty)
  pub known : is_known types field.ty ≡ true

-- the first method of its name and so many parameters in its class, or the one of Runnable, is of this kind and result
pub record IsMethod (types : Types) (is_static : Bool) (named : MemberName) (count : ℕ) (ty : Option ValueType) : Type 0 where
  pub method : NamedMethod
  pub found : method_in types named.class named.name count ≡ Some method
  pub is : named ≡ method.named
  pub kind : method.is_static ≡ is_static
  pub gives : ty ≡ type_given method.result
  pub told : named.has_result ≡ is_some ty
  pub known : is_known_result types method.result ≡ true
