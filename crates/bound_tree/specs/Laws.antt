-- What is proved of bound trees, each as one statement.
use Rattle.std.specs.Prelude.{◌≡◌, ◌↔◌, ℕ, Bool, true, false, List, [], ◌++◌}
use Rattle.bound_tree.specs.Claim.{Claim}
use Rattle.bound_tree.specs.Tree.{Terms, Statement}
use Rattle.bound_tree.specs.Places.{Frame, Place, under, places}
use Rattle.bound_tree.specs.Claims.{claims_of, frame_claims, seen, all_seen, walked}
use Rattle.bound_tree.specs.Flows.{Flow}
use Rattle.bound_tree.specs.Runs.{Mark, Goes, reaches, Follows, CleanFlow}
use Rattle.bound_tree.specs.Live.{live, named_later, spent_before, is_clean}

-- a walk that keeps a running list of claims finds at each place the claims of its ancestors, behind
-- those that stand around all of it
abbrev pub WalkFindsClaims : Type 0
WalkFindsClaims = (varies : ℕ → Bool) (held : List Claim) (s : Statement) → walked varies held s ≡ all_seen varies held (places s)

-- its step inwards: what is within a frame has the frame's claim behind the running ones
abbrev pub OneMoreClaim : Type 0
OneMoreClaim = (varies : ℕ → Bool) (held : List Claim) (f : Frame) (ps : List Place)
    → all_seen varies held (under f ps) ≡ all_seen varies (held ++ frame_claims varies f) ps

abbrev pub PartByPart : Type 0
PartByPart = (varies : ℕ → Bool) (held : List Claim) (ps qs : List Place)
    → all_seen varies held (ps ++ qs) ≡ all_seen varies held ps ++ all_seen varies held qs

-- with nothing held around all of it, they are the ancestors' alone
abbrev pub AncestorsAlone : Type 0
AncestorsAlone = (varies : ℕ → Bool) (p : Place)
    → seen varies [] p ≡ record { claims = claims_of varies p.around; phrase = p.phrase; faulty = p.faulty; at = p.at; what = p.what }

-- a local is live exactly where some run names it before it sets it
abbrev pub LiveIsNamed : Type 0
LiveIsNamed = (f : Flow) (x : ℕ)
    → (live x f false ≡ true) ↔ ((p : ℕ) × (t : List Mark) × (on : Bool) × Goes f t on × (reaches x p t ≡ true))

-- it is named later than at a token exactly where a naming of it can follow
abbrev pub LaterIsFollowed : Type 0
LaterIsFollowed = (f : Flow) (x q : ℕ) → (named_later x q f false ≡ true) ↔ ((p : ℕ) × Follows f x q p)

-- it can be spent before the naming at a token exactly where that can follow a naming that spends it
abbrev pub BeforeIsFollowed : Type 0
BeforeIsFollowed = (f : Flow) (x : ℕ) (spends : ℕ → Bool) (p : ℕ)
    → (spent_before x spends p f false ≡ true) ↔ ((q : ℕ) × (spends q ≡ true) × Follows f x q p)

-- the two passes tell clean flow
abbrev pub PassesTellCleanFlow : Type 0
PassesTellCleanFlow = (f : Flow) (spends : ℕ → Bool) (phrase : Terms) (x q : ℕ)
    → (is_clean f spends phrase x q ≡ true) ↔ CleanFlow f spends phrase x q
