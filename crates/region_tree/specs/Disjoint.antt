-- Regions of one tree that are held, of which none is under another, and how the other regions stand to them.
use Rattle.std.specs.Prelude.{◌≡◌, ◌≢◌, ℕ, ◌⊎◌, List, Option, length}
use Rattle.std.specs.List.{slice_index_or}
use Rattle.region_tree.specs.declared.disjoint.HeldState.{HeldState}
use Rattle.region_tree.specs.declared.disjoint.HeldState.TheVariants as state
use Rattle.region_tree.specs.declared.disjoint.DisjointRegions.{DisjointRegions}
use Rattle.region_tree.specs.Chains.{IsUnder}

abbrev pub state_at : List HeldState → ℕ → HeldState
state_at states k = slice_index_or states k state.Free

abbrev pub HeldIn : List HeldState → ℕ → Type 0
HeldIn states k = state_at states k ≡ state.Held

-- the region is under one that is held
abbrev pub UnderHeld : List (Option ℕ) → List HeldState → ℕ → Type 0
UnderHeld parents states k = (y : ℕ) × HeldIn states y × IsUnder parents k y

-- what the states say: where a region is over a held one or under one, there is such a one, and none is held below a free one nor above one that is over a held one
pub record Stands (parents : List (Option ℕ)) (states : List HeldState) : Type 0 where
  pub long : length states ≡ length parents
  pub free : (k y : ℕ) → state_at states k ≡ state.Free → HeldIn states y → IsUnder parents y k → ⊥
  pub over : (k y : ℕ) → state_at states k ≡ state.Over → HeldIn states y → IsUnder parents k y → ⊥
  pub over_held : (k : ℕ) → state_at states k ≡ state.Over → (y : ℕ) × HeldIn states y × IsUnder parents y k
  pub under_held : (k : ℕ) → state_at states k ≡ state.Under → UnderHeld parents states k

-- free regions above `start`, and no others, have been given the standing; all above it were, up to one that was not free
pub record MarksUp (parents : List (Option ℕ)) (old new : List HeldState) (start : ℕ) (given : HeldState) : Type 0 where
  pub long : length new ≡ length old
  pub changes : (k : ℕ) → (state_at new k ≡ state_at old k) ⊎ ((state_at old k ≡ state.Free) × (state_at new k ≡ given) × IsUnder parents start k)
  pub covers : (k : ℕ) → IsUnder parents start k
      → (state_at new k ≡ given) ⊎ ((x : ℕ) × (state_at old x ≢ state.Free) × IsUnder parents start x × IsUnder parents x k)

-- the region is held
abbrev pub IsHeld : DisjointRegions → ℕ → Type 0
IsHeld regions k = HeldIn regions.states.items k

-- these are regions of the tree of these parents
abbrev pub AreOf : List (Option ℕ) → DisjointRegions → Type 0
AreOf parents regions = Stands parents regions.states.items

-- the region is a held one, or under or above one
abbrev pub OverlapsHeld : List (Option ℕ) → DisjointRegions → ℕ → Type 0
OverlapsHeld parents regions k = (y : ℕ) × IsHeld regions y × (IsUnder parents k y ⊎ IsUnder parents y k)
