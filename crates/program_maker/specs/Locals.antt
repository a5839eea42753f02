-- The locals of a unit: `this`, where there is one, the parameters, and the locals that are declared in its body.
use Rattle.std.specs.Prelude.{ℕ, ◌+◌, Bool, true, false, List, Option, Some, None, length}
use Rattle.std.specs.Option.{option_and_then}
use Rattle.bound_tree.specs.declared.unit.Part.{Part}
use Rattle.bound_tree.specs.declared.unit.Part.TheVariants as part
use Rattle.bound_tree.specs.Reading.{statement_of}
use Rattle.bound_tree.specs.Tree.{Statement, Statements}
use Rattle.bound_tree.specs.Tree as t
use Rattle.class_faces.specs.declared.face.MemberFace.{MemberFace}
use Rattle.promise_scrub.specs.declared.surface.Surface.{Surface}
use Rattle.views.specs.Face.{surface_named}
use Rattle.views.specs.Looks.{keyed}
use Rattle.program_maker.specs.Seen.{Name}

-- how many locals a statement declares
abbrev mutual
  pub declared : Statement → ℕ
  declared (t.Block ss) = declared_all ss
  declared (t.Declare p x ty v) = 1
  declared (t.Assign to v) = 0
  declared (t.Compound to o v) = 0
  declared (t.Perform v) = 0
  declared (t.Start p v) = 0
  declared (t.If v a b) = declared a + declared b
  declared (t.While v a) = declared a
  declared (t.Sync v a) = declared a
  declared (t.SyncClass p c a) = declared a
  declared (t.Return p) = 0
  declared (t.ReturnValue p v) = 0

  pub declared_all : Statements → ℕ
  declared_all t.no_statements = 0
  declared_all (t.statement s ss) = declared s + declared_all ss

-- a header and a field run as a static unit without locals
abbrev pub is_static_part : Part → Bool
is_static_part (part.Header names) = true
is_static_part (part.Field ty i) = true
is_static_part (part.Sig params result) = false
is_static_part (part.Body b) = b.is_static

abbrev pub this_count : Bool → ℕ
this_count true = 0
this_count false = 1

-- of a unit of so many parameters
abbrev pub part_locals : ℕ → Part → ℕ
part_locals n (part.Header names) = 0
part_locals n (part.Field ty i) = 0
part_locals n (part.Sig params result) = 1 + n
part_locals n (part.Body b) = this_count b.is_static + n + declared (statement_of b.block)

-- what the class's surface says of its first member of the key
abbrev pub face_keyed : List Surface → Name → Name → Option MemberFace
face_keyed surfaces class key = option_and_then (λ (s : Surface). keyed s.members key) (surface_named surfaces class)

abbrev pub count_in : Option MemberFace → ℕ
count_in None = 0
count_in (Some m) = length m.params

-- how many parameters the class's member of the key has; that of a main is one
abbrev pub param_count : List Surface → Name → Name → ℕ
param_count surfaces class key = count_in (face_keyed surfaces class key)
