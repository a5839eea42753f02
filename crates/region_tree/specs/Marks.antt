-- What is known of each region while chains of parents are climbed.
use Rattle.std.specs.Prelude.{◌≡◌, ◌≢◌, ℕ, ◌+◌, ◌<◌, ◌≤◌, ◌⊎◌, List, Option, Some, length, sum_by}
use Rattle.std.specs.List.{slice_index_or}
use Rattle.region_tree.specs.declared.chain_state.ChainState.{ChainState}
use Rattle.region_tree.specs.declared.chain_state.ChainState.TheVariants as mark
use Rattle.region_tree.specs.Chains.{parent_at}

abbrev pub mark_at : List ChainState → ℕ → ChainState
mark_at marks x = slice_index_or marks x mark.Fresh

-- 1 where no climb has come to the region yet
abbrev pub fresh_weight : ChainState → ℕ
fresh_weight mark.Fresh = 1
fresh_weight mark.Passing = 0
fresh_weight mark.Lost = 0
fresh_weight (mark.Ranked r) = 0

-- 1 where it isn't known yet whether the region's chain reaches a root
abbrev pub open_weight : ChainState → ℕ
open_weight mark.Fresh = 1
open_weight mark.Passing = 1
open_weight mark.Lost = 0
open_weight (mark.Ranked r) = 0

abbrev pub rank_of : ChainState → ℕ
rank_of mark.Fresh = 0
rank_of mark.Passing = 0
rank_of mark.Lost = 0
rank_of (mark.Ranked r) = r

abbrev pub IsRanked : List ChainState → ℕ → Type 0
IsRanked marks x = (r : ℕ) × (mark_at marks x ≡ mark.Ranked r)

-- a region other than a root has a parent of a lower rank
abbrev pub IsAbove : List (Option ℕ) → List ChainState → ℕ → ℕ → Type 0
IsAbove parents marks k r =
    (x : ℕ) × (q : ℕ) × (parent_at parents k ≡ Some x) × (mark_at marks x ≡ mark.Ranked q) × (q < r)

-- what holds of the marks at all times, where `next` is the next rank
pub record Marked (parents : List (Option ℕ)) (marks : List ChainState) (next : ℕ) : Type 0 where
  pub long : length marks ≡ length parents
  pub within : (k x : ℕ) → parent_at parents k ≡ Some x → x < length parents
  pub roots : (k : ℕ) → k < 2 → IsRanked marks k
  pub below : (k r : ℕ) → mark_at marks k ≡ mark.Ranked r → r < next
  pub ranked : (k r : ℕ) → mark_at marks k ≡ mark.Ranked r → (k < 2) ⊎ IsAbove parents marks k r
  pub room : next + sum_by open_weight marks ≤ length marks

-- the region is lost or about to be
abbrev pub IsDown : List ChainState → ℕ → Type 0
IsDown marks x = (mark_at marks x ≡ mark.Lost) ⊎ (mark_at marks x ≡ mark.Passing)

-- a lost region's parent is lost
pub record LostClosed (parents : List (Option ℕ)) (marks : List ChainState) : Type 0 where
  pub lost : (k x : ℕ) → mark_at marks k ≡ mark.Lost → parent_at parents k ≡ Some x → mark_at marks x ≡ mark.Lost

-- a lost region's parent is lost or about to be, and so is that of each region of the path
pub record LostFalls (parents : List (Option ℕ)) (marks : List ChainState) (path : List ℕ) : Type 0 where
  pub lost : (k x : ℕ) → mark_at marks k ≡ mark.Lost → parent_at parents k ≡ Some x → IsDown marks x
  pub path_falls : (i x : ℕ) → i < length path → parent_at parents (slice_index_or path i 0) ≡ Some x → IsDown marks x

-- the path has exactly the regions that are passed, each once
pub record OnPath (marks : List ChainState) (path : List ℕ) : Type 0 where
  pub within : (i : ℕ) → i < length path → slice_index_or path i 0 < length marks
  pub passing : (i : ℕ) → i < length path → mark_at marks (slice_index_or path i 0) ≡ mark.Passing
  pub distinct : (i j : ℕ) → i < j → j < length path → slice_index_or path i 0 ≢ slice_index_or path j 0
  pub whole : (k : ℕ) → mark_at marks k ≡ mark.Passing → (i : ℕ) × (i < length path) × (slice_index_or path i 0 ≡ k)

-- each region's parent is the next of the path, and that of the last is `end`
pub record ClimbsTo (parents : List (Option ℕ)) (path : List ℕ) (end : ℕ) : Type 0 where
  pub climbs : (i : ℕ) → i < length path → parent_at parents (slice_index_or path i 0) ≡ Some (slice_index_or path (i + 1) end)

-- the path leads to a ranked region
abbrev pub ClimbsToRank : List (Option ℕ) → List ChainState → List ℕ → Type 0
ClimbsToRank parents marks path = (end : ℕ) × IsRanked marks end × ClimbsTo parents path end

-- no region is passed
pub record IsSettled (marks : List ChainState) : Type 0 where
  pub settled : (k : ℕ) → mark_at marks k ≢ mark.Passing

-- what was begun stays begun
pub record StaysBegun (old new : List ChainState) : Type 0 where
  pub stays : (k : ℕ) → mark_at old k ≢ mark.Fresh → mark_at new k ≢ mark.Fresh

-- the marks of all regions are settled, and none is fresh
pub record Known (parents : List (Option ℕ)) (marks : List ChainState) (next : ℕ) : Type 0 where
  pub marked : Marked parents marks next
  pub lost : LostClosed parents marks
  pub settled : IsSettled marks
  pub begun : (k : ℕ) → k < length marks → mark_at marks k ≢ mark.Fresh
