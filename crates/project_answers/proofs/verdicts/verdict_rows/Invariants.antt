use Rattle.std.proofs.Common.{List, take}
use Rattle.std.specs.List.{AllZip}
use Rattle.result_records.specs.declared.finding.Finding.{Finding}
use Rattle.consistency.specs.Verdicts.{VerdictsOf}
use Rattle.project_answers.specs.Judged.{IsRowOf}
use Rattle.project_answers.proofs.verdicts.verdict_rows.Given as goal

-- the rows of the promises so far
abbrev pub invariant-loop-key : goal.invariant-loop-key
invariant-loop-key l = (fs : List Finding) → VerdictsOf l.promises fs l.verdicts → AllZip (IsRowOf l.promises fs) (take l.key-index l.promises) l.rows
