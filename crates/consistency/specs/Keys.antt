-- Promises by number: the number of each is its place in the list.
use Rattle.std.specs.Prelude.{◌≡◌, ℕ, ◌<◌, List, Option, Some, length}
use Rattle.std.specs.List.{slice_get}
use Rattle.std.specs.BTreeMap.{BTreeMap, get}
use Rattle.std.specs.declared.cmp.Ordering.{Ordering}
use Rattle.desk_base.specs.declared.key.PromiseKey.{PromiseKey}
use Rattle.desk_base.specs.contracts.key.PromiseKeyOrd.TheImpl as key_ord

-- the order of keys
abbrev pub key_cmp : PromiseKey → PromiseKey → Ordering
key_cmp = (key_ord.ghosts).cmp

-- no promise stands twice in the list
abbrev pub Distinct : List PromiseKey → Type 0
Distinct ps = (i j : ℕ) (p : PromiseKey) → slice_get ps i ≡ Some p → slice_get ps j ≡ Some p → i ≡ j

-- what the map has at a promise
abbrev pub number_in : BTreeMap PromiseKey ℕ → PromiseKey → Option ℕ
number_in numbers p = get key_cmp numbers p

-- the map has the places of the first promises
pub record IndexesTo (ps : List PromiseKey) (n : ℕ) (numbers : BTreeMap PromiseKey ℕ) : Type 0 where
  pub sound : (p : PromiseKey) (k : ℕ) → number_in numbers p ≡ Some k → (k < n) × (slice_get ps k ≡ Some p)
  pub whole : Distinct ps → (p : PromiseKey) (k : ℕ) → k < n → slice_get ps k ≡ Some p → number_in numbers p ≡ Some k

abbrev pub Indexes : List PromiseKey → BTreeMap PromiseKey ℕ → Type 0
Indexes ps numbers = IndexesTo ps (length ps) numbers
