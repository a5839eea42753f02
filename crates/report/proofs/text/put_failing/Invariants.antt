use Rattle.std.proofs.Common.{◌≡◌, ◌++◌, take}
use Rattle.std.specs.Prelude.{filter}
use Rattle.std.specs.List.{flat_map}
use Rattle.report.specs.Report.{fails_row}
use Rattle.report.specs.Rows.{finding_bytes}
use Rattle.report.proofs.text.put_failing.Given as goal

-- the lines of the failing rows so far
abbrev pub invariant-loop-row : goal.invariant-loop-row
invariant-loop-row l = l.out ≡ l.initial.out ++ flat_map finding_bytes (filter fails_row (take l.row-index l.rows))
