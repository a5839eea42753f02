-- A map of promises to their places.
use Rattle.std.specs.Prelude.{◌≡◌, ℕ, List, Some}
use Rattle.std.specs.List.{slice_get}
use Rattle.std.specs.BTreeMap.{BTreeMap}
use Rattle.desk_base.specs.declared.key.PromiseKey.{PromiseKey}
use Rattle.consistency.specs.Keys.{number_in}

-- the number of each promise is its place, and nothing else has one
pub record IsNumbering (ps : List PromiseKey) (numbers : BTreeMap PromiseKey ℕ) : Type 0 where
  pub sound : (p : PromiseKey) (k : ℕ) → number_in numbers p ≡ Some k → slice_get ps k ≡ Some p
  pub whole : (p : PromiseKey) (k : ℕ) → slice_get ps k ≡ Some p → number_in numbers p ≡ Some k
