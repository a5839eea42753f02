-- What is judged of each promise of a graph.
use Rattle.std.specs.Prelude.{◌≡◌, ℕ, ◌≤◌, Bool, true, false, List, [], Option, Some, None, Contains, MatchOption, length, slice_index_or}
use Rattle.std.specs.List.{slice_get}
use Rattle.desk_base.specs.declared.key.PromiseKey.{PromiseKey}
use Rattle.result_records.specs.declared.finding.Finding.{Finding}
use Rattle.result_records.specs.declared.finding.FindingKey.{FindingKey}
use Rattle.result_records.specs.declared.finding.FindingLink.{FindingLink}
use Rattle.consistency.specs.declared.verdict.Verdict.{Verdict}
use Rattle.consistency.specs.declared.verdict.Verdict.TheVariants as verdict
use Rattle.consistency.specs.declared.verdicts.Judged.{Judged}
use Rattle.consistency.specs.declared.verdicts.Verdicts.{Verdicts}
use Rattle.consistency.specs.Keys.{Distinct, Indexes, number_in}
use Rattle.consistency.specs.declared.graph.Graph.{Graph}
use Rattle.consistency.specs.Graph.{GraphOf}
use Rattle.consistency.specs.Rounds.{HasVerdict, IsGreatest, Round}
use Rattle.consistency.specs.Steps.{still_in}
use Rattle.consistency.specs.Blame.{Blame, Leaf, IsWord}

-- the key is that of a finding with no alternative
abbrev pub IsFailing : List Finding → FindingKey → Type 0
IsFailing fs b = (x : Finding) × Contains fs x × (x.key ≡ b) × (x.alternatives ≡ [])

abbrev pub BlamedBy : List PromiseKey → List Finding → PromiseKey → Verdict → Option FindingKey → Type 0
BlamedBy ps fs p verdict.Firm blame = blame ≡ None
BlamedBy ps fs p verdict.Contingent blame = blame ≡ None
BlamedBy ps fs p verdict.Inconsistent blame = MatchOption blame ⊥ (λ b. Blame ps fs p b × IsFailing fs b)

abbrev pub RestsBy : List PromiseKey → List Finding → PromiseKey → Verdict → Option FindingLink → Type 0
RestsBy ps fs p verdict.Firm leaf = leaf ≡ None
RestsBy ps fs p verdict.Contingent leaf = MatchOption leaf ⊥ (λ l. Leaf ps fs p l × IsWord l)
RestsBy ps fs p verdict.Inconsistent leaf = leaf ≡ None

-- what is judged of a promise
pub record IsJudged (ps : List PromiseKey) (fs : List Finding) (p : PromiseKey) (row : Judged) : Type 0 where
  pub verdict : HasVerdict ps fs p row.verdict
  pub blame : BlamedBy ps fs p row.verdict row.blame
  pub leaf : RestsBy ps fs p row.verdict row.leaf

-- the verdicts are those on these promises and findings
pub record VerdictsOf (ps : List PromiseKey) (fs : List Finding) (v : Verdicts) : Type 0 where
  pub distinct : Distinct ps
  pub numbers : Indexes ps v.numbers
  pub judged : (i : ℕ) (p : PromiseKey) → slice_get ps i ≡ Some p → (row : Judged) × (slice_get v.judged.items i ≡ Some row) × IsJudged ps fs p row

-- p is in round k where it hasn't left by then, and in no round after the one that it left after
pub record RunOf (ps : List PromiseKey) (fs : List Finding) (given : Bool) (left : List (Option ℕ)) : Type 0 where
  pub size : length left ≡ length ps
  pub stays : (p k : ℕ) (key : PromiseKey) → slice_get ps p ≡ Some key → k ≤ length ps → still_in (slice_index_or left p None) k ≡ true → Round ps fs given k key
  pub gone : (p k : ℕ) (key : PromiseKey) → slice_get ps p ≡ Some key → k ≤ length ps → still_in (slice_index_or left p None) k ≡ false → Round ps fs given k key → ⊥
  pub within : (p r : ℕ) → slice_index_or left p None ≡ Some r → (1 ≤ r) × (r ≤ length ps)
  pub greatest : IsGreatest ps fs given

abbrev pub Runs : Graph → Bool → List (Option ℕ) → Type 0
Runs g given left = (ps : List PromiseKey) (fs : List Finding) → GraphOf ps fs g → RunOf ps fs given left

-- what is kept of a promise
abbrev pub row_at : Verdicts → Option ℕ → Option Judged
row_at v None = None
row_at v (Some n) = slice_get v.judged.items n

abbrev pub row_in : Verdicts → PromiseKey → Option Judged
row_in v key = row_at v (number_in v.numbers key)
