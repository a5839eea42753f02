-- Which numbers have each key, in order.
use Rattle.std.specs.Prelude.{◌≡◌, ◌≢◌, ℕ, ◌+◌, ◌<◌, ◌≤◌, List, Option, Some, None, length}
use Rattle.region_scrub.specs.Numbers.{key_at}

-- the least number from one on that has the key, where there is one
abbrev pub LeastFrom : List (Option ℕ) → ℕ → ℕ → Option ℕ → Type 0
LeastFrom keys key from None = (j : ℕ) → from ≤ j → key_at keys j ≢ Some key
LeastFrom keys key from (Some k) = (key_at keys k ≡ Some key) × (from ≤ k) × ((j : ℕ) → from ≤ j → key_at keys j ≡ Some key → k ≤ j)

-- the first number of each key, and behind each number the next of its key
pub record IsIndexed (keys first next : List (Option ℕ)) : Type 0 where
  pub long_first : length first ≡ length keys
  pub long_next : length next ≡ length keys
  pub within : (k key : ℕ) → key_at keys k ≡ Some key → key < length keys
  pub first_is : (key : ℕ) → key < length keys → LeastFrom keys key 0 (key_at first key)
  pub next_is : (k key : ℕ) → key_at keys k ≡ Some key → LeastFrom keys key (k + 1) (key_at next k)
