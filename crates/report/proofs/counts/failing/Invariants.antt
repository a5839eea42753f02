use Rattle.std.proofs.Common.{◌≡◌, ◌≤◌, take}
use Rattle.std.specs.Prelude.{count_by}
use Rattle.report.specs.Report.{fails_row}
use Rattle.report.proofs.counts.failing.Given as goal

-- the failing rows so far
abbrev pub invariant-loop-row : goal.invariant-loop-row
invariant-loop-row l = (l.count ≡ count_by fails_row (take l.row-index l.rows)) × (l.count ≤ l.row-index)
