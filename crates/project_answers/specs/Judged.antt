-- The rows of verdicts.
use Rattle.std.specs.Prelude.{◌≡◌, List, Contains}
use Rattle.desk_base.specs.declared.key.PromiseKey.{PromiseKey}
use Rattle.result_records.specs.declared.finding.Finding.{Finding}
use Rattle.consistency.specs.declared.verdicts.Verdicts.{Verdicts}
use Rattle.consistency.specs.Rounds.{HasVerdict}
use Rattle.consistency.specs.Verdicts.{BlamedBy, RestsBy, VerdictsOf}
use Rattle.report.specs.declared.answers.VerdictRow.{VerdictRow}

-- the row of a promise: its verdict, what it is blamed on where that is inconsistent, and what it rests on
-- where it is contingent
pub record IsRowOf (ps : List PromiseKey) (fs : List Finding) (p : PromiseKey) (row : VerdictRow) : Type 0 where
  pub key : row.key ≡ p
  pub verdict : HasVerdict ps fs p row.verdict
  pub blame : BlamedBy ps fs p row.verdict row.blame
  pub leaf : RestsBy ps fs p row.verdict row.leaf

-- the promise is one of those that are judged
pub record IsKnown (v : Verdicts) (p : PromiseKey) : Type 0 where
  pub promises : List PromiseKey
  pub findings : List Finding
  pub judged : VerdictsOf promises findings v
  pub among : Contains promises p
