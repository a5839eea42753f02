-- Which promises hold together: by rounds, over the promises and the findings of a project.
use Rattle.std.specs.Prelude.{◌≡◌, ℕ, zero, suc, Bool, true, false, List, Contains, All, length}
use Rattle.desk_base.specs.declared.key.PromiseKey.{PromiseKey}
use Rattle.result_records.specs.declared.finding.Finding.{Finding}
use Rattle.result_records.specs.declared.finding.FindingLink.{FindingLink}
use Rattle.result_records.specs.declared.finding.FindingLink.TheVariants as link
use Rattle.consistency.specs.declared.verdict.Verdict.{Verdict}
use Rattle.consistency.specs.declared.verdict.Verdict.TheVariants as verdict

-- a link survives a set of promises: one to a promise where the promise is in the set, a person's word
-- (a vouch or an assumption) where words count
abbrev pub Holds : Bool → (PromiseKey → Type 0) → FindingLink → Type 0
Holds given S (link.Promise key) = S key
Holds given S (link.Vouched key) = given ≡ true
Holds given S (link.Assumed class promise) = given ≡ true

-- a finding survives: all links of one of its alternatives do
abbrev pub Survives : Bool → (PromiseKey → Type 0) → Finding → Type 0
Survives given S finding = (way : List FindingLink) × Contains finding.alternatives way × All (Holds given S) way

-- the first round is all promises; in the next are those whose findings all survive this one
abbrev pub Round : List PromiseKey → List Finding → Bool → ℕ → PromiseKey → Type 0
Round ps fs given zero p = Contains ps p
Round ps fs given (suc k) p = Contains ps p × ((x : Finding) → Contains fs x → x.key.on ≡ p → Survives given (Round ps fs given k) x)

-- what is left after as many rounds as there are promises, where words count
abbrev pub Con : List PromiseKey → List Finding → PromiseKey → Type 0
Con ps fs = Round ps fs true (length ps)

-- the same where words don't count
abbrev pub Firm : List PromiseKey → List Finding → PromiseKey → Type 0
Firm ps fs = Round ps fs false (length ps)

abbrev pub HasVerdict : List PromiseKey → List Finding → PromiseKey → Verdict → Type 0
HasVerdict ps fs p verdict.Firm = Firm ps fs p
HasVerdict ps fs p verdict.Contingent = Con ps fs p × (Firm ps fs p → ⊥)
HasVerdict ps fs p verdict.Inconsistent = Con ps fs p → ⊥

-- a set of promises is consistent: each finding of each of them survives it
abbrev pub IsConsistent : List PromiseKey → List Finding → Bool → (PromiseKey → Type 0) → Type 0
IsConsistent ps fs given S = (p : PromiseKey) → S p → Contains ps p × ((x : Finding) → Contains fs x → x.key.on ≡ p → Survives given S x)

-- what is left is consistent, and holds every consistent set
pub record IsGreatest (ps : List PromiseKey) (fs : List Finding) (given : Bool) : Type 0 where
  pub consistent : IsConsistent ps fs given (Round ps fs given (length ps))
  pub holds : (S : PromiseKey → Bool) → IsConsistent ps fs given (λ p. S p ≡ true) → (p : PromiseKey) → S p ≡ true → Round ps fs given (length ps) p
