-- The assumptions of a header: each names its class and the types in the promise that is assumed, and is
-- found where its class has no such member.
use Rattle.std.specs.Prelude.{ℕ, List, [], ◌∷◌, ◌++◌, codes, Option, Some, None}
use Rattle.desk_base.specs.declared.key.PromiseKey.{PromiseKey}
use Rattle.desk_base.specs.declared.key.PromiseName.TheVariants as kind
use Rattle.class_faces.specs.declared.face.MemberFace.{MemberFace}
use Rattle.class_faces.specs.declared.face.ParamFace.{ParamFace}
use Rattle.promise_grammar.specs.declared.member.MemberContent.{MemberContent}
use Rattle.promise_grammar.specs.declared.member.MemberName.{MemberName}
use Rattle.promise_grammar.specs.declared.member.MemberName.TheVariants as member_of
use Rattle.promise_grammar.specs.declared.tree.PromiseTree.{PromiseTree, out-PromiseTree}
use Rattle.promise_grammar.specs.declared.tree.PromiseTree.TheOpen.{PromiseTree-F}
use Rattle.result_records.specs.declared.code.FindingCode.TheVariants as code
use Rattle.views.specs.Looks.{member_in, member_key}
use Rattle.name_rules.specs.declared.note.Note.{Note}
use Rattle.name_rules.specs.declared.note.Note.TheVariants as note
use Rattle.bound_unit.specs.Names.{Name, Faces, tree_names}
use Rattle.unit_rules.specs.Given.{Written}

abbrev pub assumed_name : MemberName → Name
assumed_name (member_of.Named name) = name
assumed_name member_of.New = codes "new"

-- the key of the first member of that name and number of parameters
abbrev pub assumed_key : MemberContent → List ℕ
assumed_key m = member_key m.class (assumed_name m.name) m.count

abbrev pub member_assumed : Faces → MemberContent → Option MemberFace
member_assumed faces m = member_in (faces m.class) (assumed_key m)

abbrev pub params_if_any : Option MemberFace → List ParamFace
params_if_any None = []
params_if_any (Some m) = m.params

abbrev pub absent : Option MemberFace → ℕ → List Note
absent None at = note.Finding code.BadAssume at ∷ []
absent (Some m) at = []

abbrev pub named : List Name → List Note
named [] = []
named (n ∷ ns) = note.Names n ∷ named ns

-- of the promises that may be assumed those on effects alone name types
abbrev pub effects_key : MemberContent → PromiseKey
effects_key m = record { target = assumed_key m; name = kind.RegionEffects; detail = [] }

abbrev pub assumption_notes : Faces → ℕ → PromiseTree → MemberContent → List Note
assumption_notes faces at inner m =
    note.Names m.class ∷ (named (tree_names (params_if_any (member_assumed faces m)) (effects_key m) inner) ++ absent (member_assumed faces m) at)

abbrev pub content_notes : Faces → ℕ → PromiseTree-F PromiseTree → List Note
content_notes faces at (PromiseTree-F.Assume inner m) = assumption_notes faces at inner m
content_notes faces at _ = []

abbrev pub allowed_notes : Faces → ℕ → Option PromiseTree → List Note
allowed_notes faces at None = []
allowed_notes faces at (Some tree) = content_notes faces at (out-PromiseTree tree)

abbrev pub annotation_notes : Faces → Written → List Note
annotation_notes faces a = allowed_notes faces a.at a.content
