-- An input that has been read so far.
use Rattle.std.proofs.Common.{◌≡◌, ℕ, ◌++◌, List, Option, Some, None}

-- the input, where it tells its bytes, began with what was taken, and the rest is left
abbrev pub Taken : Option (List ℕ) → Option (List ℕ) → List ℕ → Type 0
Taken None left bytes = left ≡ None
Taken (Some all) left bytes = (rest : List ℕ) × (all ≡ bytes ++ rest) × (left ≡ Some rest)
