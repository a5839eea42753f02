use Rattle.consistency.specs.Among.{FindingsAmong}
use Rattle.consistency_cases.proofs.case.findings_of.Given as goal

abbrev pub invariant-loop-case : goal.invariant-loop-case
invariant-loop-case l = FindingsAmong l.keys l.findings.items
