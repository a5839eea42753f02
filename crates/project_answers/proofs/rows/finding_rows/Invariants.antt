use Rattle.std.proofs.Common.{◌≡◌, ◌++◌, drop}
use Rattle.std.specs.Prelude.{reverse}
use Rattle.project_answers.specs.Rows.{joined_rows}
use Rattle.project_answers.proofs.rows.finding_rows.Given as goal

-- the rows so far, and those of the findings and places that are left
abbrev pub invariant-loop-site : goal.invariant-loop-site
invariant-loop-site l =
    l.rows ++ joined_rows l.paths (reverse l.findings.items) (drop l.site-index l.site-items) ≡ joined_rows l.paths (reverse l.initial.findings.items) l.site-items
