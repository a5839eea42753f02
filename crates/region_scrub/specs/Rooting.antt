-- What is known of each region's chain of parents, by marks.
use Rattle.std.specs.Prelude.{◌≡◌, ◌≢◌, ℕ, ◌<◌, ◌≤◌, ◌⊎◌, List, Option, Some, None, Bool, true, false, length, IsTrue}
use Rattle.std.specs.List.{slice_index_or, Contains}
use Rattle.std.specs.Ordering.{nat_cmp}
use Rattle.std.specs.BTreeSet.{BTreeSet, contains}
use Rattle.region_tree.specs.Chains.{parent_at, IsUnder, IsRooted}
use Rattle.region_scrub.specs.Numbers.{key_at}
use Rattle.region_scrub.specs.declared.chain_state.ChainState.{ChainState}
use Rattle.region_scrub.specs.declared.chain_state.ChainState.TheVariants as mark

abbrev pub mark_at : List ChainState → ℕ → ChainState
mark_at marks k = slice_index_or marks k mark.Fresh

abbrev pub is_fresh : ChainState → Bool
is_fresh mark.Fresh = true
is_fresh mark.Passing = false
is_fresh mark.Lost = false
is_fresh mark.Rooted = false

-- 1 where nothing is known, and 1 where something is
abbrev pub fresh_weight : ChainState → ℕ
fresh_weight mark.Fresh = 1
fresh_weight mark.Passing = 0
fresh_weight mark.Lost = 0
fresh_weight mark.Rooted = 0

abbrev pub known_weight : ChainState → ℕ
known_weight mark.Fresh = 0
known_weight mark.Passing = 1
known_weight mark.Lost = 1
known_weight mark.Rooted = 1

-- each parent is there, and a root has none
pub record IsWithin (parents : List (Option ℕ)) : Type 0 where
  pub within : (k x : ℕ) → parent_at parents k ≡ Some x → x < length parents
  pub roots : (k : ℕ) → k < 2 → parent_at parents k ≡ None

-- what holds of the marks between two climbs
pub record IsMarked (parents : List (Option ℕ)) (marks : List ChainState) : Type 0 where
  pub long : length marks ≡ length parents
  pub settled : (k : ℕ) → mark_at marks k ≢ mark.Passing
  pub roots : (k : ℕ) → k < 2 → mark_at marks k ≡ mark.Rooted
  pub rooted : (k : ℕ) → mark_at marks k ≡ mark.Rooted → IsRooted parents k
  pub lost : (k : ℕ) → mark_at marks k ≡ mark.Lost → ¬ (IsRooted parents k)
  pub closed : (k x : ℕ) → mark_at marks k ≢ mark.Fresh → parent_at parents k ≡ Some x → mark_at marks x ≢ mark.Fresh

-- a climb came to `at`: the regions on its path are passed
pub record IsClimb (parents : List (Option ℕ)) (marks : List ChainState) (path : List ℕ) (at : ℕ) : Type 0 where
  pub long : length marks ≡ length parents
  pub roots : (k : ℕ) → k < 2 → mark_at marks k ≡ mark.Rooted
  pub rooted : (k : ℕ) → mark_at marks k ≡ mark.Rooted → IsRooted parents k
  pub lost : (k : ℕ) → mark_at marks k ≡ mark.Lost → ¬ (IsRooted parents k)
  pub passing : (k : ℕ) → mark_at marks k ≡ mark.Passing → Contains path k
  pub begun : (k : ℕ) → Contains path k → mark_at marks k ≡ mark.Passing
  pub low : (k : ℕ) → Contains path k → 2 ≤ k
  pub steps : (k x : ℕ) → Contains path k → parent_at parents k ≡ Some x → Contains path x ⊎ (x ≡ at)
  pub up : (k : ℕ) → Contains path k → IsUnder parents k at
  pub closed : (k x : ℕ) → mark_at marks k ≢ mark.Fresh → parent_at parents k ≡ Some x → (mark_at marks x ≢ mark.Fresh) ⊎ (x ≡ at)

-- a region's chain reaches a root, or it doesn't
abbrev pub Reaches : Bool → List (Option ℕ) → ℕ → Type 0
Reaches true parents k = IsRooted parents k
Reaches false parents k = ¬ (IsRooted parents k)

abbrev pub mark_of : Bool → ChainState
mark_of true = mark.Rooted
mark_of false = mark.Lost

-- after a climb: whether the regions on the path, which have no mark of their own yet, reach a root
pub record IsClimbed (parents : List (Option ℕ)) (marks : List ChainState) (path : List ℕ) (reaches : Bool) : Type 0 where
  pub long : length marks ≡ length parents
  pub roots : (k : ℕ) → k < 2 → mark_at marks k ≡ mark.Rooted
  pub rooted : (k : ℕ) → mark_at marks k ≡ mark.Rooted → IsRooted parents k
  pub lost : (k : ℕ) → mark_at marks k ≡ mark.Lost → ¬ (IsRooted parents k)
  pub passing : (k : ℕ) → mark_at marks k ≡ mark.Passing → Contains path k
  pub begun : (k : ℕ) → Contains path k → mark_at marks k ≢ mark.Fresh
  pub known : (k : ℕ) → Contains path k → Reaches reaches parents k
  pub low : (k : ℕ) → Contains path k → 2 ≤ k
  pub within : (k : ℕ) → Contains path k → k < length marks
  pub closed : (k x : ℕ) → mark_at marks k ≢ mark.Fresh → parent_at parents k ≡ Some x → mark_at marks x ≢ mark.Fresh

-- the regions on the path are passed
pub record IsPassed (marks : List ChainState) (path : List ℕ) : Type 0 where
  pub passed : (k : ℕ) → Contains path k → mark_at marks k ≡ mark.Passing

-- what was known stays known
pub record Stays (before after : List ChainState) : Type 0 where
  pub stays : (k : ℕ) → mark_at before k ≢ mark.Fresh → mark_at after k ≡ mark_at before k

-- a parent's name has a number, and that of the parent as it is written is the same
pub record Fits (own up parents : List (Option ℕ)) : Type 0 where
  pub fits : (k x : ℕ) → parent_at parents k ≡ Some x → (key : ℕ) × (key_at own x ≡ Some key) × (key_at up k ≡ Some key)

-- a set of numbers has the number
abbrev pub Has : BTreeSet ℕ → ℕ → Type 0
Has set k = IsTrue (contains nat_cmp set k)

-- nothing is known any more of some regions, and these are in the set
pub record Forgets (before after : List ChainState) (old new : BTreeSet ℕ) : Type 0 where
  pub kept : (k : ℕ) → mark_at after k ≢ mark.Fresh → mark_at after k ≡ mark_at before k
  pub more : (k : ℕ) → Has old k → Has new k
  pub told : (k : ℕ) → mark_at before k ≢ mark.Fresh → mark_at after k ≡ mark.Fresh → Has new k

-- the same, but for one region, which need not be in the set
pub record ForgetsBut (but : ℕ) (before after : List ChainState) (old new : BTreeSet ℕ) : Type 0 where
  pub kept : (k : ℕ) → mark_at after k ≢ mark.Fresh → mark_at after k ≡ mark_at before k
  pub more : (k : ℕ) → Has old k → Has new k
  pub told : (k : ℕ) → k ≢ but → mark_at before k ≢ mark.Fresh → mark_at after k ≡ mark.Fresh → Has new k

-- while regions are forgotten: what is below a forgotten region is forgotten, or that one is on the path
pub record IsForgetting (parents : List (Option ℕ)) (marks : List ChainState) (path : List ℕ) : Type 0 where
  pub long : length marks ≡ length parents
  pub within : (k : ℕ) → Contains path k → k < length marks
  pub closed : (k x : ℕ) → mark_at marks k ≢ mark.Fresh → parent_at parents k ≡ Some x → (mark_at marks x ≢ mark.Fresh) ⊎ Contains path x

-- the same, or that one is `at`
pub record IsForgettingAt (parents : List (Option ℕ)) (marks : List ChainState) (path : List ℕ) (at : ℕ) : Type 0 where
  pub long : length marks ≡ length parents
  pub within : (k : ℕ) → Contains path k → k < length marks
  pub closed : (k x : ℕ) → mark_at marks k ≢ mark.Fresh → parent_at parents k ≡ Some x → (mark_at marks x ≢ mark.Fresh) ⊎ (Contains path x ⊎ (x ≡ at))

-- the number is still to come, where a cursor stands at the next one
abbrev pub IsAhead : Option ℕ → ℕ → Type 0
IsAhead None k = ⊥
IsAhead (Some next) k = next ≤ k

-- while what is right below `at` is forgotten: the same, or that one is `at` and the region is still to come
pub record IsForgettingFrom (parents : List (Option ℕ)) (marks : List ChainState) (path : List ℕ) (at : ℕ) (cursor : Option ℕ) : Type 0 where
  pub long : length marks ≡ length parents
  pub within : (k : ℕ) → Contains path k → k < length marks
  pub closed : (k x : ℕ) → mark_at marks k ≢ mark.Fresh → parent_at parents k ≡ Some x → (mark_at marks x ≢ mark.Fresh) ⊎ (Contains path x ⊎ ((x ≡ at) × IsAhead cursor k))

-- where a cursor stands, the region's parent is named as `at` is
pub record SharesKey (own up : List (Option ℕ)) (at : ℕ) (cursor : Option ℕ) : Type 0 where
  pub shares : (next : ℕ) → cursor ≡ Some next → (key : ℕ) × (key_at own at ≡ Some key) × (key_at up next ≡ Some key)

-- each region whose parent is named as `at` is stands from the cursor on
pub record IsAheadBelow (own up : List (Option ℕ)) (at : ℕ) (cursor : Option ℕ) : Type 0 where
  pub ahead : (k key : ℕ) → key_at own at ≡ Some key → key_at up k ≡ Some key → IsAhead cursor k

-- a region without parent keeps its mark
pub record KeepsTops (parents : List (Option ℕ)) (before after : List ChainState) : Type 0 where
  pub kept : (k : ℕ) → parent_at parents k ≡ None → mark_at after k ≡ mark_at before k
