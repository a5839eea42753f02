-- What writing a text leaves.
use Rattle.std.specs.Prelude.{◌≡◌, ℕ, ◌≤◌, ◌++◌, List, Option, Some, None}

-- the sink, where it tells its bytes, has the text at its end
abbrev pub Wrote : Option (List ℕ) → Option (List ℕ) → List ℕ → Type 0
Wrote None new text = Unit {0}
Wrote (Some old) new text = new ≡ Some (old ++ text)

-- the sink, where it tells its bytes, has a front of the text at its end
abbrev pub WroteFront : Option (List ℕ) → Option (List ℕ) → List ℕ → Type 0
WroteFront None new text = Unit {0}
WroteFront (Some old) new text = (front : List ℕ) × (rest : List ℕ) × (text ≡ front ++ rest) × (new ≡ Some (old ++ front))

-- the sink says that it takes so many bytes without a fault
abbrev pub HasRoom : Option ℕ → ℕ → Type 0
HasRoom None count = ⊥
HasRoom (Some room) count = count ≤ room
