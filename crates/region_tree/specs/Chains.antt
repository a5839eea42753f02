-- Chains of parents. A region is known by its number; 0 is `Instance` and 1 is `Static`.
use Rattle.std.specs.Prelude.{◌≡◌, ℕ, ◌<◌, List, [], ◌∷◌, Option, Some, None}
use Rattle.std.specs.List.{slice_index_or}

-- the parent of a region, where it has one that is there
abbrev pub parent_at : List (Option ℕ) → ℕ → Option ℕ
parent_at parents x = slice_index_or parents x None

-- the chain leads from a to b: each of its regions is the parent of the one before it
abbrev pub Leads : List (Option ℕ) → ℕ → List ℕ → ℕ → Type 0
Leads parents a [] b = a ≡ b
Leads parents a (x ∷ chain) b = (parent_at parents a ≡ Some x) × Leads parents x chain b

-- a is b, or a chain of parents leads from a to b
unfoldable pub IsUnder : List (Option ℕ) → ℕ → ℕ → Type 0
IsUnder parents a b = (chain : List ℕ) × Leads parents a chain b

-- a chain of parents leads to a root
unfoldable pub IsRooted : List (Option ℕ) → ℕ → Type 0
IsRooted parents a = (root : ℕ) × (root < 2) × IsUnder parents a root
