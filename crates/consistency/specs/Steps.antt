-- What stands after a level, and what each part of a level does.
use Rattle.std.specs.Prelude.{◌≡◌, ℕ, suc, ◌<◌, ◌≤◌, Bool, true, false, List, [], ◌∷◌, Option, Some, None, length, slice_index_or, Contains, ◌⊎◌, nat_lt, take}
use Rattle.consistency.specs.declared.flat.Flat.{Flat}
use Rattle.consistency.specs.Flat.{alternative_of, target_of, Survives, Alive, Left, living_of}

-- dead marks are exact for round k, what is kept of promises for round suc k, and the front left in suc k
pub record Level (g : Flat) (k : ℕ) (dead : List Bool) (living : List ℕ) (left : List (Option ℕ)) (front : List ℕ) : Type 0 where
  pub dead_size : length dead ≡ length g.finding.items
  pub living_size : length living ≡ length g.on.items
  pub left_size : length left ≡ g.promises
  pub is_dead : (a : ℕ) → a < length g.finding.items → slice_index_or dead a false ≡ true → Survives g (Alive g k) a → ⊥
  pub is_living : (a : ℕ) → a < length g.finding.items → slice_index_or dead a false ≡ false → Survives g (Alive g k) a
  pub counts : (f : ℕ) → f < length g.on.items → slice_index_or living f 0 ≡ living_of f g.finding.items dead
  pub kept : (p : ℕ) → p < g.promises → Left g (suc k) p (slice_index_or left p None)
  pub front_in : (q : ℕ) → Contains front q → (q < g.promises) × (slice_index_or left q None ≡ Some (suc k))
  pub front_all : (q : ℕ) → q < g.promises → slice_index_or left q None ≡ Some (suc k) → Contains front q

-- the alternatives with a link into the front
pub record Dying (g : Flat) (front dying : List ℕ) : Type 0 where
  pub sound : (a : ℕ) → Contains dying a → (l : ℕ) × (l < length g.alternative.items) × (alternative_of g l ≡ a) × Contains front (target_of g l)
  pub whole : (l : ℕ) → l < length g.alternative.items → Contains front (target_of g l) → Contains dying (alternative_of g l)

-- the dying are marked and counted off; emptied are the findings that have lost their last alternative
pub record Killed (finding dying : List ℕ) (dead after : List Bool) (living left : List ℕ) (emptied : List ℕ) : Type 0 where
  pub dead_size : length after ≡ length dead
  pub living_size : length left ≡ length living
  pub cause : (a : ℕ) → a < length dead → slice_index_or after a false ≡ true → (slice_index_or dead a false ≡ true) ⊎ Contains dying a
  pub stays : (a : ℕ) → slice_index_or dead a false ≡ true → slice_index_or after a false ≡ true
  pub dies : (a : ℕ) → Contains dying a → slice_index_or after a false ≡ true
  pub counts : (f : ℕ) → f < length living → slice_index_or left f 0 ≡ living_of f finding after
  pub zero_in : (f : ℕ) → Contains emptied f → (f < length living) × (slice_index_or left f 0 ≡ 0)
  pub zero_all : (f : ℕ) → f < length living → 0 < slice_index_or living f 0 → slice_index_or left f 0 ≡ 0 → Contains emptied f

-- the promises of the emptied findings that had not left leave in this round, and are the next front
pub record Leave (on emptied : List ℕ) (round : ℕ) (before after : List (Option ℕ)) (front : List ℕ) : Type 0 where
  pub size : length after ≡ length before
  pub stays : (p r : ℕ) → slice_index_or before p None ≡ Some r → slice_index_or after p None ≡ Some r
  pub leaves : (f : ℕ) → Contains emptied f → slice_index_or after (slice_index_or on f 0) None ≡ None → ⊥
  pub cause : (p : ℕ) → slice_index_or before p None ≡ None → (slice_index_or after p None ≡ None)
      ⊎ ((slice_index_or after p None ≡ Some round) × ((f : ℕ) × Contains emptied f × (slice_index_or on f 0 ≡ p)))
  pub front_in : (q : ℕ) → Contains front q → (q < length before) × (slice_index_or after q None ≡ Some round) × (slice_index_or before q None ≡ None)
  pub front_all : (q : ℕ) → q < length before → slice_index_or before q None ≡ None → slice_index_or after q None ≡ Some round → Contains front q

-- the alternatives that link to each promise, over the first n links
pub record Dependents (g : Flat) (n : ℕ) (rows : List (List ℕ)) : Type 0 where
  pub size : length rows ≡ g.promises
  pub sound : (q a : ℕ) → q < g.promises → Contains (slice_index_or rows q []) a → (l : ℕ) × (l < n) × (alternative_of g l ≡ a) × (target_of g l ≡ q)
  pub whole : (l : ℕ) → l < n → Contains (slice_index_or rows (target_of g l) []) (alternative_of g l)

abbrev pub Counted : List ℕ → List Bool → List ℕ → Type 0
Counted finding dead living = (f : ℕ) → f < length living → slice_index_or living f 0 ≡ living_of f finding dead

-- what one mark may empty
abbrev pub Emptying : List ℕ → ℕ → List ℕ → List ℕ → Bool → Type 0
Emptying finding a before after r = (f : ℕ) → f < length before → slice_index_or after f 0 ≡ 0
    → (slice_index_or before f 0 ≡ 0) ⊎ ((f ≡ slice_index_or finding a 0) × (r ≡ true))

abbrev pub Solved : Flat → List (Option ℕ) → Type 0
Solved g left = (length left ≡ g.promises) × ((p : ℕ) → p < g.promises → Left g g.promises p (slice_index_or left p None))

-- the findings below n that have no living alternative
pub record Empties (living : List ℕ) (n : ℕ) (empty : List ℕ) : Type 0 where
  pub sound : (f : ℕ) → Contains empty f → (f < n) × (slice_index_or living f 0 ≡ 0)
  pub whole : (f : ℕ) → f < n → slice_index_or living f 0 ≡ 0 → Contains empty f

-- how many have left
abbrev pub gone_of : List (Option ℕ) → ℕ
gone_of [] = 0
gone_of (None ∷ xs) = gone_of xs
gone_of (Some r ∷ xs) = suc (gone_of xs)

-- k levels took k promises at least, and one more where the front has one
pub record Taken (k : ℕ) (left : List (Option ℕ)) (front : List ℕ) : Type 0 where
  pub whole : k ≤ gone_of left
  pub more : 0 < length front → k < gone_of left

-- a level keeps who had left, and those who leave in it are the front
pub record Grows (round : ℕ) (before after : List (Option ℕ)) (front : List ℕ) : Type 0 where
  pub size : length after ≡ length before
  pub stays : (p r : ℕ) → slice_index_or before p None ≡ Some r → slice_index_or after p None ≡ Some r
  pub cause : (p r : ℕ) → slice_index_or after p None ≡ Some r → (slice_index_or before p None ≡ Some r) ⊎ ((r ≡ round) × Contains front p)
  pub front_in : (p : ℕ) → Contains front p → (p < length before) × (slice_index_or after p None ≡ Some round)

-- the list has the promises that left, each after those that left in rounds before
pub record InOrder (left : List (Option ℕ)) (order : List ℕ) : Type 0 where
  pub has : (p r : ℕ) → slice_index_or left p None ≡ Some r → Contains order p
  pub within : (p : ℕ) → Contains order p → (p < length left) × ((r : ℕ) × (slice_index_or left p None ≡ Some r))
  pub sorted : (i p r s : ℕ) → i < length order → slice_index_or left (slice_index_or order i 0) None ≡ Some r
      → slice_index_or left p None ≡ Some s → s < r → Contains (take i order) p

-- what is left is consistent
abbrev pub Consistent : Flat → Type 0
Consistent g = (p : ℕ) → p < g.promises → Alive g g.promises p → Alive g (suc g.promises) p

-- whether a promise is in round r, by what is kept of it
abbrev pub still_in : Option ℕ → ℕ → Bool
still_in None r = true
still_in (Some x) r = nat_lt r x

-- nobody has left later than in this round
abbrev pub LeftBy : ℕ → List (Option ℕ) → Type 0
LeftBy round left = (p r : ℕ) → slice_index_or left p None ≡ Some r → r ≤ round
