-- Types as they are declared.
use Rattle.std.specs.Prelude.{ℕ, suc, not, List, [], ◌∷◌, ◌++◌}
use Rattle.class_faces.specs.declared.face.FaceTy.{FaceTy}
use Rattle.class_faces.specs.declared.face.FaceTy.TheVariants as face
use Rattle.result_records.specs.declared.code.FindingCode.TheVariants as code
use Rattle.tree_places.specs.PlainExpr.{PlainLexeme}
use Rattle.tree_places.specs.PlainStmt.{PlainTy}
use Rattle.tree_places.specs.PlainStmt as p
use Rattle.name_rules.specs.declared.note.Note.{Note}
use Rattle.name_rules.specs.declared.note.Note.TheVariants.{Names}
use Rattle.name_rules.specs.Types.{Types, is_known_name}
use Rattle.name_rules.specs.Notes.{found_if}

-- as other units see it
abbrev pub declared : PlainTy → FaceTy
declared (p.Int at) = face.Int
declared (p.Boolean at) = face.Bool
declared (p.Named w) = face.Named w.text

-- its name stands in the unit as a type, and one that isn't there is found at that name
abbrev pub name_notes : Types → PlainLexeme → List Note
name_notes types w = Names w.text ∷ found_if (not (is_known_name types w.text)) code.UnknownType (suc w.at)

abbrev pub declared_notes : Types → PlainTy → List Note
declared_notes types (p.Int at) = []
declared_notes types (p.Boolean at) = []
declared_notes types (p.Named w) = name_notes types w
