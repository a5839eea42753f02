-- What locks ask of the fields of a class.
use Rattle.std.specs.Prelude.{◌≡◌, ℕ, List, Option, Some, None, find, if◌then◌else◌}
use Rattle.std.specs.Option.{option_map, option_or}
use Rattle.std.specs.Ordering.{nat_cmp}
use Rattle.std.specs.Cmp.Lexicographic.{slice_cmp}
use Rattle.std.specs.BTreeMap.{BTreeMap, get}
use Rattle.std.specs.Str.{bytes_eq}
use Rattle.class_faces.specs.declared.face.FieldFace.{FieldFace}
use Rattle.header_scrub.specs.declared.lock.LockField.{LockField}

-- the first field of a name
abbrev pub field_named : List FieldFace → List ℕ → Option FieldFace
field_named fields name = find (λ f. bytes_eq f.name name) fields

-- what a lock asks of the field that it is held by
abbrev pub Fields : Type 0
Fields = List ℕ → Option LockField

abbrev pub lock_field : FieldFace → LockField
lock_field f = record { is_static = f.is_static; lock_form = f.lock_form }

-- the same of a class with these fields: the first of a name counts
abbrev pub fields_by : List FieldFace → Fields
fields_by fields name = option_map lock_field (field_named fields name)

-- the map has what these fields show, the first of each name
abbrev pub fields_in : BTreeMap (List ℕ) LockField → Fields
fields_in known name = get (slice_cmp nat_cmp) known name

pub record HasFields (known : BTreeMap (List ℕ) LockField) (fields : List FieldFace) : Type 0 where
  pub has : (name : List ℕ) → fields_in known name ≡ fields_by fields name

-- one field more: a name that was not there has what it shows, and all others are as before
pub record PutsField (old new : BTreeMap (List ℕ) LockField) (f : FieldFace) : Type 0 where
  pub puts : (q : List ℕ) → fields_in new q ≡ option_or (fields_in old q) (if bytes_eq f.name q then Some (lock_field f) else None)
