-- The rounds in which promises leave, as sets, over the four lists of a graph.
use Rattle.std.specs.Prelude.{◌≡◌, ℕ, zero, suc, ◌+◌, ◌<◌, ◌^◌, Bool, false, List, [], ◌∷◌, Option, Some, None, length, slice_index_or, ◌==◌, ◌&&◌, not, if◌then◌else◌}
use Rattle.consistency.specs.declared.flat.Flat.{Flat}

-- the promise of a finding, the finding of an alternative, the alternative and the promise of a link
abbrev pub on_of : Flat → ℕ → ℕ
on_of g f = slice_index_or g.on.items f 0

abbrev pub finding_of : Flat → ℕ → ℕ
finding_of g a = slice_index_or g.finding.items a 0

abbrev pub barred_of : Flat → ℕ → Bool
barred_of g a = slice_index_or g.barred.items a false

abbrev pub alternative_of : Flat → ℕ → ℕ
alternative_of g l = slice_index_or g.alternative.items l 0

abbrev pub target_of : Flat → ℕ → ℕ
target_of g l = slice_index_or g.target.items l 0

-- an alternative survives a set of promises: no link of it is barred, and each leads into the set
abbrev pub Survives : Flat → (ℕ → Type 0) → ℕ → Type 0
Survives g S a = (barred_of g a ≡ false) × ((l : ℕ) → l < length g.alternative.items → alternative_of g l ≡ a → S (target_of g l))

-- a promise survives: each of its findings has an alternative that does
abbrev pub Next : Flat → (ℕ → Type 0) → ℕ → Type 0
Next g S p = (f : ℕ) → f < length g.on.items → on_of g f ≡ p
    → (a : ℕ) × (a < length g.finding.items) × (finding_of g a ≡ f) × Survives g S a

abbrev pub Alive : Flat → ℕ → ℕ → Type 0
Alive g zero p = Unit {0}
Alive g (suc k) p = Next g (Alive g k) p

-- what is kept of a promise: nothing where it is still in round k, else the first round without it
abbrev pub Left : Flat → ℕ → ℕ → Option ℕ → Type 0
Left g k p None = Alive g k p
Left g k p (Some zero) = ⊥
Left g k p (Some (suc r)) = (r < k) × Alive g r p × (Alive g (suc r) p → ⊥)

-- the lists fit one another
pub record Fits (g : Flat) : Type 0 where
  pub barred : length g.barred.items ≡ length g.finding.items
  pub links : length g.target.items ≡ length g.alternative.items
  pub on_in : (f : ℕ) → f < length g.on.items → on_of g f < g.promises
  pub finding_in : (a : ℕ) → a < length g.finding.items → finding_of g a < length g.on.items
  pub alternative_in : (l : ℕ) → l < length g.alternative.items → alternative_of g l < length g.finding.items
  pub few_promises : g.promises < 2 ^ 31
  pub few_findings : length g.on.items < 2 ^ 32
  pub few_alternatives : length g.finding.items < 2 ^ 32
  pub target_in : (l : ℕ) → l < length g.alternative.items → target_of g l < g.promises

-- the alternatives of f that are not marked dead
abbrev pub living_of : ℕ → List ℕ → List Bool → ℕ
living_of f [] ds = 0
living_of f (o ∷ os) [] = 0
living_of f (o ∷ os) (d ∷ ds) = (if (o == f) && not d then 1 else 0) + living_of f os ds
