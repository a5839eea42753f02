use Rattle.std.proofs.Common.{◌≡◌, map}
use Rattle.project_answers.specs.Lines.{sited}
use Rattle.project_answers.proofs.sited.site_findings.Given as goal

-- the findings so far, with their lines in the same text
abbrev pub invariant-loop-finding : goal.invariant-loop-finding
invariant-loop-finding l = record {
  so_far : l.sited.items ≡ map (sited l.file l.fn.lines.text.now l.tokens) l.yielded;
  same : l.lines.text.now ≡ l.fn.lines.text.now;
}
