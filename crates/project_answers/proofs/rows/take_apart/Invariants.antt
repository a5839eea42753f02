use Rattle.std.proofs.Common.{◌≡◌, map}
use Rattle.project_answers.specs.Gathered.{finding_of, site_of}
use Rattle.project_answers.proofs.rows.take_apart.Given as goal

-- those so far
abbrev pub invariant-loop-finding : goal.invariant-loop-finding
invariant-loop-finding l = record {
  findings : l.findings.items ≡ map finding_of l.yielded;
  sites : l.sites.items ≡ map site_of l.yielded;
}
