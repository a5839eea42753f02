-- What a bare name names.
use Rattle.std.specs.Prelude.{Bool, if◌then◌else◌, List, [], ◌∷◌, ◌++◌, Option, Some, None, find}
use Rattle.std.specs.Option.{is_some}
use Rattle.std.specs.Str.{bytes_eq}
use Rattle.class_faces.specs.declared.face.FieldFace.{FieldFace}
use Rattle.name_rules.specs.declared.scope.Entry.{Entry}
use Rattle.name_rules.specs.declared.scope.Variable.{Variable}
use Rattle.name_rules.specs.declared.scope.Meaning as written
use Rattle.name_rules.specs.declared.scope.Meaning.TheVariants as meaning
use Rattle.name_rules.specs.Types.{Name}

-- the names in scope, in the order in which they came; no name stands twice
abbrev pub Scope : Type 0
Scope = List Entry

abbrev pub entry_of : Scope → Name → Option Entry
entry_of scope name = find (λ (e : Entry). bytes_eq e.name name) scope

abbrev pub in_scope : Scope → Name → Bool
in_scope scope name = is_some (entry_of scope name)

-- one more name in scope; of a repeated one the first stays
abbrev pub with_entry : Scope → Entry → Scope
with_entry scope e = if in_scope scope e.name then scope else scope ++ e ∷ []

-- a bare name is a local or parameter, else a field of the own class; the name of a main's parameter
-- is neither, and no type
pub data Meaning : Type 0 where
  IsVariable : Variable → Meaning
  IsField : FieldFace → Meaning
  IsHidden : Meaning
  IsFree : Meaning

abbrev pub variable_meaning : Option Variable → Meaning
variable_meaning None = IsHidden
variable_meaning (Some v) = IsVariable v

abbrev pub field_meaning : Option FieldFace → Meaning
field_meaning None = IsFree
field_meaning (Some f) = IsField f

abbrev pub meaning_by : Option Entry → Option FieldFace → Meaning
meaning_by None own = field_meaning own
meaning_by (Some e) own = variable_meaning e.variable

-- what a name names, the field being that of the own class
abbrev pub meaning_in : Scope → Name → Option FieldFace → Meaning
meaning_in scope name own = meaning_by (entry_of scope name) own

abbrev pub shown : written.Meaning → Meaning
shown (meaning.Variable v) = IsVariable v.now
shown (meaning.Field f) = IsField f.now
shown meaning.Hidden = IsHidden
shown meaning.Free = IsFree
