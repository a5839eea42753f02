use Rattle.std.proofs.Common.{◌≡◌, ◌+◌, ◌≤◌}
use Rattle.project_answers.specs.Lines.{line_at}
use Rattle.project_answers.proofs.lines.feeds_between.Given as goal

-- the line feeds so far lead from the first line to the present one
abbrev pub invariant-loop-i : goal.invariant-loop-i
invariant-loop-i l = record {
  led : line_at l.text l.from + l.feeds ≡ line_at l.text l.i;
  few : l.feeds ≤ l.i;
}
