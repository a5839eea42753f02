-- What is told on the way of binding.
use Rattle.std.specs.Prelude.{ℕ, Bool, if◌then◌else◌, List, [], ◌∷◌, ◌++◌, Option, Some, None}
use Rattle.class_faces.specs.declared.face.FaceTy.{FaceTy}
use Rattle.class_faces.specs.declared.face.FaceTy.TheVariants as face
use Rattle.class_faces.specs.declared.face.ParamFace.{ParamFace}
use Rattle.result_records.specs.declared.code.FindingCode.{FindingCode}
use Rattle.name_rules.specs.declared.note.Note.{Note}
use Rattle.name_rules.specs.declared.note.Note.TheVariants.{Finding, Names, Calls}
use Rattle.name_rules.specs.Types.{Name}

-- a finding where something holds
abbrev pub found_if : Bool → FindingCode → ℕ → List Note
found_if b code at = if b then Finding code at ∷ [] else []

-- a declared type that is named, called, passed to or got is consulted
abbrev pub consults : FaceTy → List Note
consults (face.Named c) = Names c ∷ []
consults face.Int = []
consults face.Bool = []
consults face.Args = []

abbrev pub consults_result : Option FaceTy → List Note
consults_result None = []
consults_result (Some ty) = consults ty

abbrev pub consults_params : List ParamFace → List Note
consults_params [] = []
consults_params (p ∷ ps) = consults p.ty ++ consults_params ps

-- a member of a class is called with so many arguments, with the types of its parameters and result
abbrev pub calls : Name → Name → ℕ → List ParamFace → Option FaceTy → List Note
calls c name count params given = Calls c name count ∷ (consults_result given ++ consults_params params)
