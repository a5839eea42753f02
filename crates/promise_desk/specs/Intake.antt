-- What reading an input to its end gives.
use Rattle.std.specs.Prelude.{◌≡◌, ℕ, ◌+◌, ◌<◌, ◌≤◌, ◌++◌, ◌↔◌, Bool, IsTrue, List, [], Option, Some, None, length}

-- the most bytes that are taken of an input
abbrev pub most_bytes : ℕ
most_bytes = 20971520

-- A count of faults never falls, and where no call could fail none can now, and none did.
pub record Moved (before : ℕ) (quiet : Bool) (after : ℕ) (quiet' : Bool) : Type 0 where
  pub never_falls : before ≤ after
  pub silent : IsTrue quiet → IsTrue quiet' × (after ≡ before)

-- the next bytes of an input, where it tells them, went from its front to the end of a list
abbrev pub Appended : Option (List ℕ) → Option (List ℕ) → List ℕ → List ℕ → ℕ → Type 0
Appended None left old new count = (left ≡ None) × (length new ≡ length old + count)
Appended (Some all) left old new count =
    (piece : List ℕ) × (rest : List ℕ) × (all ≡ piece ++ rest) × (left ≡ Some rest) × (new ≡ old ++ piece)
    × (length piece ≡ count) × ((count ≡ 0) ↔ (all ≡ []))

-- the input, where it tells its bytes, was these bytes, and none is left
abbrev pub WasRead : Option (List ℕ) → Option (List ℕ) → List ℕ → Type 0
WasRead None new bytes = Unit {0}
WasRead (Some left) new bytes = (left ≡ bytes) × (new ≡ Some [])

-- the input, where it tells its bytes, had more than are taken
abbrev pub WasTooLong : Option (List ℕ) → Type 0
WasTooLong None = Unit {0}
WasTooLong (Some left) = most_bytes < length left
