use Rattle.std.proofs.Common.{◌≡◌, ◌≤◌, take}
use Rattle.std.specs.Prelude.{count_by}
use Rattle.report.specs.Report.{has_verdict}
use Rattle.report.proofs.counts.judged.Given as goal

-- the promises with the verdict among the rows so far
abbrev pub invariant-loop-row : goal.invariant-loop-row
invariant-loop-row l =
    (l.count ≡ count_by (has_verdict l.verdict) (take l.row-index l.rows)) × (l.count ≤ l.row-index)
