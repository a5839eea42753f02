-- The places of a unit: where a field is read or written, a method is called, an object made, a thread
-- started, a monitor named, or a value flows; each with what stands around it.
use Rattle.std.specs.Prelude.{ℕ, ◌+◌, Bool, true, false, List, [], ◌∷◌, ◌++◌, Option, Some, None}
use Rattle.bound_tree.specs.declared.name.FieldName.{FieldName}
use Rattle.bound_tree.specs.declared.name.MemberName.{MemberName}
use Rattle.bound_tree.specs.declared.unit.BoundTree.{BoundTree}
use Rattle.bound_tree.specs.declared.unit.Part.{Part}
use Rattle.bound_tree.specs.declared.unit.Part.TheVariants as part
use Rattle.bound_tree.specs.Tree.{Term, Terms, Statement, Statements, no_terms, term, no_statements, statement, stamp_of, is_bad, base_of}
use Rattle.bound_tree.specs.Tree as t
use Rattle.bound_tree.specs.Reading.{statement_of}

-- what stands around a place and has a monitor: a `synchronized` statement on a value or on a class, or
-- a synchronized member that isn't static (a static one names its class)
pub data Frame : Type 0 where
  InSync : Term → Frame
  InClass : List ℕ → Frame
  InMember : Frame

-- whose field or method it is: that of a value, or of its class
pub data Owner : Type 0 where
  Of : Term → Owner
  OfClass : Owner

-- where a value goes: into a field, a local, the receiver or an argument (by its number from 0) of a
-- method, an argument of a constructor, a name that names nothing, the unit's result, or a thread
pub data Goal : Type 0 where
  ToField : FieldName → Goal
  ToLocal : ℕ → Goal
  ToReceiver : MemberName → Goal
  ToArgument : MemberName → ℕ → Goal
  ToConstructor : List ℕ → ℕ → Goal
  ToNothing : List ℕ → Goal
  ToResult : Goal
  ToThread : Goal

pub data What : Type 0 where
  Reads : FieldName → Owner → What
  Writes : FieldName → Owner → What
  Calls : MemberName → Owner → Terms → What
  Makes : List ℕ → Terms → What
  Starts : Term → What
  Locks : Term → What
  Flows : Term → Goal → What

-- what stands around it, outermost first; the expressions of the smallest action, declaration,
-- condition, `synchronized` head or `return` that it stands in; whether the access, the call, the
-- object made is faulty, or the value can't be used; the number of its token
pub record Place : Type 0 where
  pub around : List Frame
  pub phrase : Terms
  pub faulty : Bool
  pub at : ℕ
  pub what : What

abbrev pub here : Terms → Bool → ℕ → What → List Place
here ph faulty p w = record { around = []; phrase = ph; faulty = faulty; at = p; what = w } ∷ []

abbrev pub inside : Frame → Place → Place
inside f p = record p { around = f ∷ p.around }

abbrev pub under : Frame → List Place → List Place
under f [] = []
under f (p ∷ ps) = inside f p ∷ under f ps

-- a value that goes somewhere, at its first token
abbrev pub goes : Terms → Term → Goal → List Place
goes ph e g = here ph (is_bad e) (stamp_of e).first (Flows e g)

-- those of an expression, in the order of evaluation (JLS 8, 15.7)
abbrev mutual
  pub term_places : Terms → Term → List Place
  term_places ph (t.Const s l) = []
  term_places ph (t.This s) = []
  term_places ph (t.Local s x) = []
  term_places ph (t.Field s b f) = term_places ph b ++ here ph s.is_faulty s.at (Reads f (Of b))
  term_places ph (t.Static s f) = here ph s.is_faulty s.at (Reads f OfClass)
  term_places ph (t.New s c es) = args_places ph (ToConstructor c) 0 es ++ here ph s.is_faulty s.at (Makes c es)
  term_places ph (t.Call s r m es) =
      term_places ph r ++ (goes ph r (ToReceiver m) ++ (args_places ph (ToArgument m) 0 es ++ here ph s.is_faulty s.at (Calls m (Of r) es)))
  term_places ph (t.CallStatic s m es) = args_places ph (ToArgument m) 0 es ++ here ph s.is_faulty s.at (Calls m OfClass es)
  term_places ph (t.Unknown s n es) = args_places ph (λ _. ToNothing n) 0 es
  term_places ph (t.UnknownField s b n) = term_places ph b
  term_places ph (t.UnknownCall s r n es) = term_places ph r ++ (goes ph r (ToNothing n) ++ args_places ph (λ _. ToNothing n) 0 es)
  term_places ph (t.Unary s o a) = term_places ph a
  term_places ph (t.And s a b) = term_places ph a ++ term_places ph b
  term_places ph (t.Or s a b) = term_places ph a ++ term_places ph b
  term_places ph (t.Binary s o a b) = term_places ph a ++ term_places ph b

  -- arguments, the first of which has the number, each with its flow
  pub args_places : Terms → (ℕ → Goal) → ℕ → Terms → List Place
  args_places ph to n t.no_terms = []
  args_places ph to n (t.term e es) = term_places ph e ++ (goes ph e (to n) ++ args_places ph to (n + 1) es)

-- ---- targets of assignments: what is evaluated before the value, the read, the write, and where the
-- value goes

abbrev pub base_places : Terms → Option Term → List Place
base_places ph None = []
base_places ph (Some b) = term_places ph b

-- the field that a target is, whose it is, where, and whether it is faulty
pub record Access : Type 0 where
  pub faulty : Bool
  pub at : ℕ
  pub field : FieldName
  pub owner : Owner

abbrev pub access_of : Term → Option Access
access_of (t.Field s b f) = Some (record { faulty = s.is_faulty; at = s.at; field = f; owner = Of b })
access_of (t.Static s f) = Some (record { faulty = s.is_faulty; at = s.at; field = f; owner = OfClass })
access_of _ = None

abbrev pub read_places : Terms → Option Access → List Place
read_places ph None = []
read_places ph (Some a) = here ph a.faulty a.at (Reads a.field a.owner)

abbrev pub written_places : Terms → Option Access → List Place
written_places ph None = []
written_places ph (Some a) = here ph a.faulty a.at (Writes a.field a.owner)

abbrev pub target_goal : Term → Goal
target_goal (t.Local s x) = ToLocal x
target_goal (t.Field s b f) = ToField f
target_goal (t.Static s f) = ToField f
target_goal (t.UnknownField s b n) = ToNothing n
target_goal (t.Unknown s n es) = ToNothing n
target_goal _ = ToNothing []

-- ---- statements

abbrev pub one_term : Term → Terms
one_term e = term e no_terms

abbrev pub two_terms : Term → Term → Terms
two_terms a b = term a (one_term b)

abbrev mutual
  pub places : Statement → List Place
  places (t.Block ss) = places_all ss
  places (t.Declare p x ty v) = term_places (one_term v) v ++ goes (one_term v) v (ToLocal x)
  places (t.Assign to v) =
      base_places (two_terms to v) (base_of to)
      ++ (term_places (two_terms to v) v ++ (goes (two_terms to v) v (target_goal to) ++ written_places (two_terms to v) (access_of to)))
  places (t.Compound to o v) =
      base_places (two_terms to v) (base_of to)
      ++ (read_places (two_terms to v) (access_of to) ++ (term_places (two_terms to v) v ++ written_places (two_terms to v) (access_of to)))
  places (t.Perform v) = term_places (one_term v) v
  places (t.Start p v) = term_places (one_term v) v ++ (goes (one_term v) v ToThread ++ here (one_term v) (is_bad v) p (Starts v))
  places (t.If v a b) = term_places (one_term v) v ++ (places a ++ places b)
  places (t.While v a) = term_places (one_term v) v ++ places a
  places (t.Sync v a) =
      term_places (one_term v) v ++ (here (one_term v) (is_bad v) (stamp_of v).first (Locks v) ++ under (InSync v) (places a))
  places (t.SyncClass p c a) = under (InClass c) (places a)
  places (t.Return p) = []
  places (t.ReturnValue p v) = term_places (one_term v) v ++ goes (one_term v) v ToResult

  pub places_all : Statements → List Place
  places_all t.no_statements = []
  places_all (t.statement s ss) = places s ++ places_all ss

-- a synchronized member holds its monitor around its whole code (JLS 8, 8.4.3.6)
abbrev pub member_places : List ℕ → (synchronized static : Bool) → List Place → List Place
member_places c false static ps = ps
member_places c true false ps = under InMember ps
member_places c true true ps = under (InClass c) ps

abbrev pub part_places : List ℕ → Part → List Place
part_places c (part.Header names) = []
part_places c (part.Field ty initial) = []
part_places c (part.Sig params result) = []
part_places c (part.Body b) = member_places c b.is_synchronized b.is_static (places (statement_of b.block))

-- the places of a unit
abbrev pub places_of : BoundTree → List Place
places_of u = part_places u.class u.part
