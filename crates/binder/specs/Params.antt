-- Parameters and results: their types, and the names of the body that parameters are.
use Rattle.std.specs.Prelude.{ℕ, suc, ◌+◌, List, [], ◌∷◌, ◌++◌, Option, Some, None}
use Rattle.desk_base.specs.declared.span.Span.{Span}
use Rattle.java_tree.specs.declared.member.Ty.{Ty}
use Rattle.java_tree.specs.declared.member.Param.{Param}
use Rattle.class_faces.specs.declared.face.FaceTy.{FaceTy}
use Rattle.class_faces.specs.Faces.{face_ty, is_final}
use Rattle.tree_places.specs.Plain.{plain_ty}
use Rattle.bound_tree.specs.declared.name.ValueType.{ValueType}
use Rattle.bound_tree.specs.declared.unit.Variable.{Variable}
use Rattle.result_records.specs.declared.code.FindingCode.TheVariants as code
use Rattle.name_rules.specs.declared.note.Note.{Note}
use Rattle.name_rules.specs.declared.scope.Entry.{Entry}
use Rattle.name_rules.specs.Types.{Types}
use Rattle.name_rules.specs.Notes.{found_if}
use Rattle.name_rules.specs.Scopes.{Scope, in_scope, with_entry}
use Rattle.expression_binding.specs.Stamps.{type_of}
use Rattle.statement_binding.specs.DeclaredTypes.{declared_notes}

abbrev pub value_type : Ty → ValueType
value_type t = type_of (face_ty t)

-- ---- results

abbrev pub result_type : Option Ty → Option ValueType
result_type None = None
result_type (Some t) = Some (value_type t)

abbrev pub result_face : Option Ty → Option FaceTy
result_face None = None
result_face (Some t) = Some (face_ty t)

abbrev pub result_notes : Types → (Span → ℕ) → Option Ty → List Note
result_notes types number None = []
result_notes types number (Some t) = declared_notes types (plain_ty number t)

-- ---- parameters

abbrev pub variable_of : (Span → ℕ) → Param → Variable
variable_of number p = record { at = suc (number p.name.span); name = p.name.text; ty = value_type p.ty }

-- the parameter as a name of the body, under the number of its local
abbrev pub param_entry : ℕ → Param → Entry
param_entry n p = record { name = p.name.text; variable = Some (record { number = n; ty = face_ty p.ty; is_final = is_final p.mods }) }

-- of parameters of one name the first is found by it, and the others are repeated
abbrev pub param_notes : Types → (Span → ℕ) → Scope → Param → List Note
param_notes types number scope p =
    declared_notes types (plain_ty number p.ty) ++ found_if (in_scope scope p.name.text) code.RepeatedLocal (suc (number p.name.span))

-- those of parameters that come behind the names in scope, the first of which is local n
abbrev pub params_notes : Types → (Span → ℕ) → ℕ → Scope → List Param → List Note
params_notes types number n scope [] = []
params_notes types number n scope (p ∷ ps) =
    param_notes types number scope p ++ params_notes types number (n + 1) (with_entry scope (param_entry n p)) ps

-- the names in scope with those of the parameters
abbrev pub params_scope : ℕ → Scope → List Param → Scope
params_scope n scope [] = scope
params_scope n scope (p ∷ ps) = params_scope (n + 1) (with_entry scope (param_entry n p)) ps
