-- What an inconsistent promise is blamed on, and what a contingent one rests on.
use Rattle.std.specs.Prelude.{◌≡◌, ℕ, suc, ◌⊎◌, Bool, true, false, List, [], ◌∷◌, All}
use Rattle.desk_base.specs.declared.key.PromiseKey.{PromiseKey}
use Rattle.result_records.specs.declared.finding.Finding.{Finding}
use Rattle.result_records.specs.declared.finding.FindingKey.{FindingKey}
use Rattle.result_records.specs.declared.finding.FindingLink.{FindingLink}
use Rattle.result_records.specs.declared.finding.FindingLink.TheVariants as link
use Rattle.consistency.specs.Rounds.{Holds, Survives, Round, Con}

-- x is the first of the list with P
abbrev pub First : {X : Type 0} → (X → Type 0) → List X → X → Type 0
First P [] x = ⊥
First P (y ∷ ys) x = (P y × (x ≡ y)) ⊎ ((P y → ⊥) × First P ys x)

-- p is in round k and in none after it
abbrev pub LeavesAfter : List PromiseKey → List Finding → Bool → ℕ → PromiseKey → Type 0
LeavesAfter ps fs given k p = Round ps fs given k p × (Round ps fs given (suc k) p → ⊥)

-- the first finding of p of which no alternative survives round k
abbrev pub FirstLost : List PromiseKey → List Finding → Bool → ℕ → PromiseKey → Finding → Type 0
FirstLost ps fs given k p = First (λ (x : Finding). (x.key.on ≡ p) × (Survives given (Round ps fs given k) x → ⊥)) fs

-- the first link of an alternative that doesn't survive round k
abbrev pub FirstMissing : List PromiseKey → List Finding → Bool → ℕ → List FindingLink → FindingLink → Type 0
FirstMissing ps fs given k = First (λ (l : FindingLink). Holds given (Round ps fs given k) l → ⊥)

-- a person's word: a vouch or an assumption
abbrev pub IsWord : FindingLink → Type 0
IsWord (link.Promise key) = ⊥
IsWord (link.Vouched key) = Unit {0}
IsWord (link.Assumed class promise) = Unit {0}

-- the blame of a promise that left the rounds in which words count: its first lost finding, where that
-- has no alternative; else the blame of the promise to which the first alternative's first missing link leads
pub data Blame (ps : List PromiseKey) (fs : List Finding) : PromiseKey → FindingKey → Type 0 where
  own : (p : PromiseKey) (k : ℕ) (x : Finding) → LeavesAfter ps fs true k p → FirstLost ps fs true k p x → x.alternatives ≡ [] → Blame ps fs p x.key
  further : (p q : PromiseKey) (k : ℕ) (x : Finding) (way : List FindingLink) (ways : List (List FindingLink)) (b : FindingKey)
      → LeavesAfter ps fs true k p → FirstLost ps fs true k p x → x.alternatives ≡ way ∷ ways
      → FirstMissing ps fs true k way (link.Promise q) → Blame ps fs q b → Blame ps fs p b

-- the leaf of a promise that left the rounds in which words don't count: of its first lost finding's first
-- alternative with all links in Con the first missing link, where that is a word; else the leaf of the promise to which it leads
pub data Leaf (ps : List PromiseKey) (fs : List Finding) : PromiseKey → FindingLink → Type 0 where
  own : (p : PromiseKey) (k : ℕ) (x : Finding) (way : List FindingLink) (l : FindingLink)
      → LeavesAfter ps fs false k p → FirstLost ps fs false k p x → First (All (Holds true (Con ps fs))) x.alternatives way
      → FirstMissing ps fs false k way l → IsWord l → Leaf ps fs p l
  further : (p q : PromiseKey) (k : ℕ) (x : Finding) (way : List FindingLink) (l : FindingLink)
      → LeavesAfter ps fs false k p → FirstLost ps fs false k p x → First (All (Holds true (Con ps fs))) x.alternatives way
      → FirstMissing ps fs false k way (link.Promise q) → Leaf ps fs q l → Leaf ps fs p l
