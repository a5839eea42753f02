-- The monitors that stand around a place, by what names them, and when a lock is held there.
use Rattle.std.specs.Prelude.{◌≡◌, ◌⊎◌, ℕ, ◌==◌, ◌||◌, Bool, true, false, List, [], ◌∷◌, ◌++◌, Option, Some, None, get_or, if◌then◌else◌}
use Rattle.bound_tree.specs.Claim.{Claim}
use Rattle.bound_tree.specs.Claim as claim
use Rattle.bound_tree.specs.declared.name.FieldName.{FieldName}
use Rattle.bound_tree.specs.declared.tree.Naming.{Naming}
use Rattle.bound_tree.specs.Tree.{Term, Terms, Statement, Statements, local_of}
use Rattle.bound_tree.specs.Tree as t
use Rattle.bound_tree.specs.Places.{Frame, InSync, InClass, InMember, What, Locks, Place, here, term_places, one_term, places}

-- ---- which locals are assigned after their declaration

abbrev pub assigned_local : Option Naming → List ℕ
assigned_local None = []
assigned_local (Some n) = n.local ∷ []

abbrev mutual
  pub assigned : Statement → List ℕ
  assigned (t.Block ss) = assigned_all ss
  assigned (t.Declare p x ty v) = []
  assigned (t.Assign to v) = assigned_local (local_of to)
  assigned (t.Compound to o v) = assigned_local (local_of to)
  assigned (t.Perform v) = []
  assigned (t.Start p v) = []
  assigned (t.If v a b) = assigned a ++ assigned b
  assigned (t.While v a) = assigned a
  assigned (t.Sync v a) = assigned a
  assigned (t.SyncClass p c a) = assigned a
  assigned (t.Return p) = []
  assigned (t.ReturnValue p v) = []

  pub assigned_all : Statements → List ℕ
  assigned_all t.no_statements = []
  assigned_all (t.statement s ss) = assigned s ++ assigned_all ss

abbrev pub among : ℕ → List ℕ → Bool
among x [] = false
among x (y ∷ ys) = (x == y) || among x ys

abbrev pub varies_of : Statement → ℕ → Bool
varies_of s x = among x (assigned s)

-- ---- what has a claim's form, `varies` being the locals that are assigned

-- as a table by the locals' numbers says
abbrev pub varies_in : List Bool → ℕ → Bool
varies_in table x = get_or table x false

-- of `this` or of a local that is never assigned (JLS 8, 4.12.4)
abbrev pub steady : (ℕ → Bool) → ℕ → Option ℕ
steady varies x = if varies x then None else Some x

abbrev pub local_claim : (ℕ → Bool) → Term → Option ℕ
local_claim varies (t.This s) = Some 0
local_claim varies (t.Local s x) = steady varies x
local_claim varies _ = None

abbrev pub field_claim : Bool → Option ℕ → FieldName → Option Claim
field_claim true (Some x) f = Some (claim.Field x f.class f.name)
field_claim true None f = None
field_claim false b f = None

abbrev pub value_claim : Option ℕ → Option Claim
value_claim (Some x) = Some (claim.Local x)
value_claim None = None

abbrev pub static_claim : FieldName → Option Claim
static_claim f = if f.is_lock then Some (claim.Static f.class f.name) else None

-- by what claim an expression names its object, where it has a claim's form
abbrev pub claim_of : (ℕ → Bool) → Term → Option Claim
claim_of varies (t.Field s b f) = field_claim f.is_lock (local_claim varies b) f
claim_of varies (t.Static s f) = static_claim f
claim_of varies e = value_claim (local_claim varies e)

abbrev pub listed : Option Claim → List Claim
listed None = []
listed (Some m) = m ∷ []

abbrev pub frame_claims : (ℕ → Bool) → Frame → List Claim
frame_claims varies (InSync e) = listed (claim_of varies e)
frame_claims varies (InClass c) = claim.Class c ∷ []
frame_claims varies InMember = claim.Local 0 ∷ []

-- the claims of a place, by what stands around it, outermost first
abbrev pub claims_of : (ℕ → Bool) → List Frame → List Claim
claims_of varies [] = []
claims_of varies (f ∷ fs) = frame_claims varies f ++ claims_of varies fs

-- ---- when a lock is held

-- by what a lock names its monitor: the object itself, a field of it, a class, a static field
pub data Lock : Type 0 where
  ByThis : Lock
  ByField : List ℕ → List ℕ → Lock
  ByClass : List ℕ → Lock
  ByStatic : List ℕ → List ℕ → Lock

abbrev pub base_claim : Option ℕ → (ℕ → Claim) → Option Claim
base_claim None claim = None
base_claim (Some x) claim = Some (claim x)

-- the claim of a lock for a base; a lock of a class needs none
abbrev pub lock_claim : (ℕ → Bool) → Lock → Term → Option Claim
lock_claim varies ByThis base = claim_of varies base
lock_claim varies (ByField c f) base = base_claim (local_claim varies base) (λ x. claim.Field x c f)
lock_claim varies (ByClass c) base = Some (claim.Class c)
lock_claim varies (ByStatic c f) base = Some (claim.Static c f)

abbrev pub Holds : List Claim → Claim → Type 0
Holds [] m = ⊥
Holds (c ∷ cs) m = (c ≡ m) ⊎ Holds cs m

abbrev pub HoldsOf : List Claim → Option Claim → Type 0
HoldsOf cs None = ⊥
HoldsOf cs (Some m) = Holds cs m

-- a lock is held for a base at a place
abbrev pub Held : (ℕ → Bool) → Place → Lock → Term → Type 0
Held varies p lock base = HoldsOf (claims_of varies p.around) (lock_claim varies lock base)

-- ---- the working form: a walk with a running list of claims

-- what is at a place, with its claims
pub record Seen : Type 0 where
  pub claims : List Claim
  pub phrase : Terms
  pub faulty : Bool
  pub at : ℕ
  pub what : What

-- a place, where these claims stand around all of it
abbrev pub seen : (ℕ → Bool) → List Claim → Place → Seen
seen varies held p = record { claims = held ++ claims_of varies p.around; phrase = p.phrase; faulty = p.faulty; at = p.at; what = p.what }

abbrev pub all_seen : (ℕ → Bool) → List Claim → List Place → List Seen
all_seen varies held [] = []
all_seen varies held (p ∷ ps) = seen varies held p ∷ all_seen varies held ps

-- the places of a part without statements, all of which have the running claims
abbrev pub with_claims : List Claim → List Place → List Seen
with_claims held [] = []
with_claims held (p ∷ ps) = record { claims = held; phrase = p.phrase; faulty = p.faulty; at = p.at; what = p.what } ∷ with_claims held ps

abbrev mutual
  pub walked : (ℕ → Bool) → List Claim → Statement → List Seen
  walked varies held (t.Block ss) = walked_all varies held ss
  walked varies held (t.Declare p x ty v) = with_claims held (places (t.Declare p x ty v))
  walked varies held (t.Assign to v) = with_claims held (places (t.Assign to v))
  walked varies held (t.Compound to o v) = with_claims held (places (t.Compound to o v))
  walked varies held (t.Perform v) = with_claims held (places (t.Perform v))
  walked varies held (t.Start p v) = with_claims held (places (t.Start p v))
  walked varies held (t.If v a b) = with_claims held (term_places (one_term v) v) ++ (walked varies held a ++ walked varies held b)
  walked varies held (t.While v a) = with_claims held (term_places (one_term v) v) ++ walked varies held a
  walked varies held (t.Sync v a) =
      with_claims held (term_places (one_term v) v ++ here (one_term v) (t.is_bad v) (t.stamp_of v).first (Locks v))
      ++ walked varies (held ++ listed (claim_of varies v)) a
  walked varies held (t.SyncClass p c a) = walked varies (held ++ claim.Class c ∷ []) a
  walked varies held (t.Return p) = []
  walked varies held (t.ReturnValue p v) = with_claims held (places (t.ReturnValue p v))

  pub walked_all : (ℕ → Bool) → List Claim → Statements → List Seen
  walked_all varies held t.no_statements = []
  walked_all varies held (t.statement s ss) = walked varies held s ++ walked_all varies held ss
