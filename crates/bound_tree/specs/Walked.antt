-- The places of a unit with what comes after them, as a walk from the end meets them.
use Rattle.std.specs.Prelude.{ℕ, ◌+◌, Bool, true, false, List, [], ◌∷◌, ◌++◌, Option, Some, None}
use Rattle.bound_tree.specs.Claim.{Claim}
use Rattle.bound_tree.specs.Claim as claim
use Rattle.bound_tree.specs.Claims.{claim_of, listed, Seen}
use Rattle.bound_tree.specs.Places.{Of, OfClass, Goal, ToLocal, ToReceiver, ToArgument, ToConstructor, ToNothing, ToResult, ToThread, What, Reads, Writes, Calls, Makes, Starts, Locks, Flows, Access, access_of, target_goal, one_term, two_terms}
use Rattle.bound_tree.specs.Reading.{statement_of}
use Rattle.bound_tree.specs.declared.unit.Body.{Body}
use Rattle.bound_tree.specs.Tree.{Term, Terms, Statement, Statements, stamp_of, is_bad, base_of}
use Rattle.bound_tree.specs.Tree as t

abbrev pub spot : List Claim → Terms → Bool → ℕ → What → List Seen → List Seen
spot held ph faulty p w k = record { claims = held; phrase = ph; faulty = faulty; at = p; what = w } ∷ k

-- a value that goes somewhere, at its first token
abbrev pub going : List Claim → Terms → Term → Goal → List Seen → List Seen
going held ph e g k = spot held ph (is_bad e) (stamp_of e).first (Flows e g) k

abbrev mutual
  pub term_seen : List Claim → Terms → Term → List Seen → List Seen
  term_seen h ph (t.Const s l) k = k
  term_seen h ph (t.This s) k = k
  term_seen h ph (t.Local s x) k = k
  term_seen h ph (t.Field s b f) k = term_seen h ph b (spot h ph s.is_faulty s.at (Reads f (Of b)) k)
  term_seen h ph (t.Static s f) k = spot h ph s.is_faulty s.at (Reads f OfClass) k
  term_seen h ph (t.New s c es) k = args_seen h ph (λ n. ToConstructor c n) 0 es (spot h ph s.is_faulty s.at (Makes c es) k)
  term_seen h ph (t.Call s r m es) k =
      term_seen h ph r (going h ph r (ToReceiver m) (args_seen h ph (λ n. ToArgument m n) 0 es (spot h ph s.is_faulty s.at (Calls m (Of r) es) k)))
  term_seen h ph (t.CallStatic s m es) k = args_seen h ph (λ n. ToArgument m n) 0 es (spot h ph s.is_faulty s.at (Calls m OfClass es) k)
  term_seen h ph (t.Unknown s n es) k = args_seen h ph (λ _. ToNothing n) 0 es k
  term_seen h ph (t.UnknownField s b n) k = term_seen h ph b k
  term_seen h ph (t.UnknownCall s r n es) k = term_seen h ph r (going h ph r (ToNothing n) (args_seen h ph (λ _. ToNothing n) 0 es k))
  term_seen h ph (t.Unary s o a) k = term_seen h ph a k
  term_seen h ph (t.And s a b) k = term_seen h ph a (term_seen h ph b k)
  term_seen h ph (t.Or s a b) k = term_seen h ph a (term_seen h ph b k)
  term_seen h ph (t.Binary s o a b) k = term_seen h ph a (term_seen h ph b k)

  pub args_seen : List Claim → Terms → (ℕ → Goal) → ℕ → Terms → List Seen → List Seen
  args_seen h ph to n t.no_terms k = k
  args_seen h ph to n (t.term e es) k = term_seen h ph e (going h ph e (to n) (args_seen h ph to (n + 1) es k))

abbrev pub base_seen : List Claim → Terms → Option Term → List Seen → List Seen
base_seen h ph None k = k
base_seen h ph (Some b) k = term_seen h ph b k

abbrev pub read_seen : List Claim → Terms → Option Access → List Seen → List Seen
read_seen h ph None k = k
read_seen h ph (Some a) k = spot h ph a.faulty a.at (Reads a.field a.owner) k

abbrev pub written_seen : List Claim → Terms → Option Access → List Seen → List Seen
written_seen h ph None k = k
written_seen h ph (Some a) k = spot h ph a.faulty a.at (Writes a.field a.owner) k

abbrev pub value_seen : List Claim → Terms → Term → Goal → List Seen → List Seen
value_seen h ph v g k = term_seen h ph v (going h ph v g k)

abbrev pub head_seen : List Claim → Term → List Seen → List Seen
head_seen h v k = term_seen h (one_term v) v (spot h (one_term v) (is_bad v) (stamp_of v).first (Locks v) k)

abbrev pub start_seen : List Claim → ℕ → Term → List Seen → List Seen
start_seen h p v k = value_seen h (one_term v) v ToThread (spot h (one_term v) (is_bad v) p (Starts v) k)

abbrev pub assign_seen : List Claim → Term → Term → List Seen → List Seen
assign_seen h to v k =
    base_seen h (two_terms to v) (base_of to)
    (value_seen h (two_terms to v) v (target_goal to) (written_seen h (two_terms to v) (access_of to) k))

abbrev pub compound_seen : List Claim → Term → Term → List Seen → List Seen
compound_seen h to v k =
    base_seen h (two_terms to v) (base_of to)
    (read_seen h (two_terms to v) (access_of to) (term_seen h (two_terms to v) v (written_seen h (two_terms to v) (access_of to) k)))

abbrev mutual
  pub statement_seen : (ℕ → Bool) → List Claim → Statement → List Seen → List Seen
  statement_seen varies h (t.Block ss) k = statements_seen varies h ss k
  statement_seen varies h (t.Declare p x ty v) k = value_seen h (one_term v) v (ToLocal x) k
  statement_seen varies h (t.Assign to v) k = assign_seen h to v k
  statement_seen varies h (t.Compound to o v) k = compound_seen h to v k
  statement_seen varies h (t.Perform v) k = term_seen h (one_term v) v k
  statement_seen varies h (t.Start p v) k = start_seen h p v k
  statement_seen varies h (t.If v a b) k = term_seen h (one_term v) v (statement_seen varies h a (statement_seen varies h b k))
  statement_seen varies h (t.While v a) k = term_seen h (one_term v) v (statement_seen varies h a k)
  statement_seen varies h (t.Sync v a) k = head_seen h v (statement_seen varies (h ++ listed (claim_of varies v)) a k)
  statement_seen varies h (t.SyncClass p c a) k = statement_seen varies (h ++ claim.Class c ∷ []) a k
  statement_seen varies h (t.Return p) k = k
  statement_seen varies h (t.ReturnValue p v) k = value_seen h (one_term v) v ToResult k

  pub statements_seen : (ℕ → Bool) → List Claim → Statements → List Seen → List Seen
  statements_seen varies h t.no_statements k = k
  statements_seen varies h (t.statement s ss) k = statement_seen varies h s (statements_seen varies h ss k)

-- a synchronized member holds its monitor around its whole code (JLS 8, 8.4.3.6)
abbrev pub member_claims : List ℕ → (synchronized static : Bool) → List Claim
member_claims c false static = []
member_claims c true false = claim.Local 0 ∷ []
member_claims c true true = claim.Class c ∷ []

abbrev pub body_seen : (ℕ → Bool) → List ℕ → Body → List Seen
body_seen varies c b = statement_seen varies (member_claims c b.is_synchronized b.is_static) (statement_of b.block) []
