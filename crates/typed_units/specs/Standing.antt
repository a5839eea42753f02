-- What the types of a project are where none of its units has a bind finding.
use Rattle.std.specs.Prelude.{◌≡◌, ℕ, true, length, Some}
use Rattle.std.specs.List.{AllByRecursion}
use Rattle.class_faces.specs.declared.face.FieldFace.{FieldFace}
use Rattle.class_faces.specs.declared.face.MemberFace.{MemberFace}
use Rattle.class_faces.specs.declared.face.ParamFace.{ParamFace}
use Rattle.name_rules.specs.Types.{Name, Types, Face, is_known, member_key, member_in}
use Rattle.typed_units.specs.Named.{is_known_result}

abbrev pub IsKnownField : Types → FieldFace → Type 0
IsKnownField types f = is_known types f.ty ≡ true

abbrev pub IsKnownParam : Types → ParamFace → Type 0
IsKnownParam types p = is_known types p.ty ≡ true

pub record IsKnownMember (types : Types) (m : MemberFace) : Type 0 where
  pub params : AllByRecursion (IsKnownParam types) m.params
  pub result : is_known_result types m.result ≡ true

-- the types that the fields and members of a type are declared with are there: else their own units have a finding
pub record IsKnownFace (types : Types) (f : Face) : Type 0 where
  pub fields : AllByRecursion (IsKnownField types) f.fields
  pub members : AllByRecursion (IsKnownMember types) f.members

pub record TypesStand (types : Types) : Type 0 where
  pub known : (c : Name) (f : Face) → types c ≡ Some f → IsKnownFace types f
  -- a key tells how many parameters its member has
  pub counted : (c name : Name) (count : ℕ) (m : MemberFace) → member_in (member_key c name count) (types c) ≡ Some m → length m.params ≡ count
