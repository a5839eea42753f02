use Rattle.std.proofs.Common.{◌≡◌, ◌≤◌, take}
use Rattle.std.specs.Prelude.{count_by}
use Rattle.report.specs.Rows.{is_promise}
use Rattle.report.proofs.counts.promises.Given as goal

-- the promises among the rows so far
abbrev pub invariant-loop-row : goal.invariant-loop-row
invariant-loop-row l = (l.count ≡ count_by is_promise (take l.row-index l.rows)) × (l.count ≤ l.row-index)
