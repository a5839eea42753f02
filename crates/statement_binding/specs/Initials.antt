-- The value that a field begins with.
use Rattle.std.specs.Prelude.{ℕ, suc, Bool, true, false, ℤ, pos, negsuc, neg_ℤ, nat_lt, if◌then◌else◌, List, [], ◌∷◌, codes, Option, Some, None}
use Rattle.desk_base.specs.declared.span.Span.{Span}
use Rattle.class_faces.specs.declared.face.FaceTy.{FaceTy}
use Rattle.class_faces.specs.declared.face.FaceTy.TheVariants as face
use Rattle.result_records.specs.declared.code.FindingCode.{FindingCode}
use Rattle.java_lexer.specs.Value.{string_value}
use Rattle.java_tree.specs.declared.member.Init.{Init}
use Rattle.java_tree.specs.declared.member.Init.TheVariants as init
use Rattle.bound_tree.specs.declared.unit.Initial.{Initial}
use Rattle.bound_tree.specs.declared.unit.Initial.TheVariants as value
use Rattle.name_rules.specs.declared.note.Note.{Note}
use Rattle.name_rules.specs.declared.note.Note.TheVariants.{Finding}
use Rattle.name_rules.specs.Types.{Types, ValueType, Int, Boolean, Null, Named}
use Rattle.name_rules.specs.Places.{Of, misplaced}
use Rattle.expression_binding.specs.Literals.{int_value}

abbrev pub least : ℤ
least = negsuc 2147483647

-- 2147483648 stands behind a minus alone (JLS 8, 3.10.1); anywhere else it would wrap to the least int
abbrev pub plus : ℕ → ℤ
plus n = if nat_lt n 2147483648 then pos n else least

abbrev pub minus : ℕ → ℤ
minus n = if nat_lt n 2147483648 then neg_ℤ (pos n) else least

-- without an initializer, that of the type (JLS 8, 4.12.5)
abbrev pub default : FaceTy → Initial
default face.Int = value.Int (pos 0)
default face.Bool = value.Boolean false
default face.Args = value.Null
default (face.Named c) = value.Null

abbrev pub written : Init → Initial
written (init.Int w) = value.Int (plus (int_value w.text))
written (init.MinusInt at w) = value.Int (minus (int_value w.text))
written (init.True at) = value.Boolean true
written (init.False at) = value.Boolean false
written (init.Null at) = value.Null
written (init.Str w) = value.Str (string_value w.text)
written (init.NewObject at) = value.FreshObject

abbrev pub initial : FaceTy → Option Init → Initial
initial ty None = default ty
initial ty (Some i) = written i

-- ---- the finding, at the first token of an initializer that doesn't suit the field's type

abbrev pub type_of_init : Init → ValueType
type_of_init (init.Int w) = Int
type_of_init (init.MinusInt at w) = Int
type_of_init (init.True at) = Boolean
type_of_init (init.False at) = Boolean
type_of_init (init.Null at) = Null
type_of_init (init.Str w) = Named (codes "String")
type_of_init (init.NewObject at) = Named (codes "Object")

abbrev pub place_of_init : Init → Span
place_of_init (init.Int w) = w.span
place_of_init (init.MinusInt at w) = at
place_of_init (init.True at) = at
place_of_init (init.False at) = at
place_of_init (init.Null at) = at
place_of_init (init.Str w) = w.span
place_of_init (init.NewObject at) = at

abbrev pub finding_at : Option FindingCode → ℕ → List Note
finding_at None at = []
finding_at (Some c) at = Finding c at ∷ []

abbrev pub initial_notes : Types → (Span → ℕ) → FaceTy → Option Init → List Note
initial_notes types number ty None = []
initial_notes types number ty (Some i) = finding_at (misplaced types (Of ty) (Some (type_of_init i))) (suc (number (place_of_init i)))
