-- Counts of faults of the outside.
use Rattle.std.specs.Prelude.{◌≡◌, ℕ, ◌<◌, ◌≤◌, ◌⊎◌, Option, Some, None}

-- where a 64-bit count stays
abbrev pub last_count : ℕ
last_count = 18446744073709551615

-- the count rose; one that stands at its last value is taken as risen
abbrev pub Rises : ℕ → ℕ → Type 0
Rises old new = (old < new) ⊎ (last_count ≤ new)

-- what isn't told before a call isn't told after it
abbrev pub StaysUntold : {A : Type 0} → Option A → Option A → Type 0
StaysUntold None new = new ≡ None
StaysUntold (Some told) new = Unit {0}
