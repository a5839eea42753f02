-- What holds between one declaration that is set aside and the next.
use Rattle.std.specs.Prelude.{◌≡◌, ◌≢◌, ℕ, ◌<◌, ◌≤◌, List, [], ◌∷◌, Option, Some, None, length}
use Rattle.region_tree.specs.Regions.{parents_of, region_kinds}
use Rattle.region_scrub.specs.declared.fault.RegionFault.{RegionFault}
use Rattle.region_scrub.specs.declared.chain_state.ChainState.TheVariants as mark
use Rattle.region_scrub.specs.declared.scrubber.Scrubber.{Scrubber}
use Rattle.region_scrub.specs.Indexes.{IsIndexed}
use Rattle.region_scrub.specs.Numbers.{Heads, Links, IsLeft, IsSound, HasFault, key_at, own_numbers}
use Rattle.region_scrub.specs.Rooting.{IsMarked, Has, mark_at}

-- the faults of all regions by their numbers: the roots have none
abbrev pub faults_by : List (Option RegionFault) → List (Option RegionFault)
faults_by aside = None ∷ None ∷ aside

-- the parts fit one another
pub record IsStage (s : Scrubber) : Type 0 where
  pub own : s.same.keys.items ≡ own_numbers s.declared.now
  pub up : s.below.keys.items ≡ parents_of s.declared.now
  pub same : IsIndexed s.same.keys.items s.same.first.items s.same.next.items
  pub below : IsIndexed s.below.keys.items s.below.first.items s.below.next.items
  pub long : length s.aside.items ≡ length s.declared.now
  pub heads : Heads s.same.keys.items (faults_by s.aside.items) s.heads.items
  pub links : Links s.below.keys.items s.heads.items (faults_by s.aside.items) s.rooting.parents.items
  pub marked : IsMarked s.rooting.parents.items s.rooting.marks.items
  pub empty : s.rooting.path.items ≡ []

-- the region has no fault, and that its chain reaches a root is known
abbrev pub IsSettled : Scrubber → ℕ → Type 0
IsSettled s k =
    IsSound (region_kinds s.declared.now) s.same.keys.items s.heads.items s.rooting.parents.items k × (mark_at s.rooting.marks.items k ≡ mark.Rooted)

-- each region that is left and is neither in the work nor the one that is looked at has no fault
pub record Examined (s : Scrubber) (but : ℕ) : Type 0 where
  pub settled : (k : ℕ) → 2 ≤ k → k ≢ but → IsLeft (faults_by s.aside.items) k → (Has s.work k → ⊥) → IsSettled s k

-- the region has this fault, and no region before it has one
pub record IsNext (s : Scrubber) (region : ℕ) (why : RegionFault) : Type 0 where
  pub low : 2 ≤ region
  pub left : IsLeft (faults_by s.aside.items) region
  pub fault : HasFault (region_kinds s.declared.now) s.same.keys.items s.heads.items s.rooting.parents.items region why
  pub before : (k : ℕ) → 2 ≤ k → k < region → IsLeft (faults_by s.aside.items) k
      → IsSound (region_kinds s.declared.now) s.same.keys.items s.heads.items s.rooting.parents.items k

-- the same declarations, names and parents as they are written
pub record IsOf (s t : Scrubber) : Type 0 where
  pub declared : t.declared.now ≡ s.declared.now
  pub own : t.same.keys.items ≡ s.same.keys.items
  pub up : t.below.keys.items ≡ s.below.keys.items
  pub aside : t.aside.items ≡ s.aside.items

-- the first region behind one that has its name and is left
abbrev pub IsLater : List (Option ℕ) → List (Option RegionFault) → ℕ → ℕ → Option ℕ → Type 0
IsLater own faults key region None = (j : ℕ) → region < j → IsLeft faults j → key_at own j ≢ Some key
IsLater own faults key region (Some k) =
    (key_at own k ≡ Some key) × IsLeft faults k × (region < k) × ((j : ℕ) → region < j → IsLeft faults j → key_at own j ≡ Some key → k ≤ j)
