use Rattle.std.proofs.Common.{◌≡◌, ◌++◌, List}
use Rattle.result_records.specs.declared.finding.Finding.{Finding}
use Rattle.unit_rules.specs.Faults.{firsts, firsts_after}
use Rattle.unit_rules.proofs.faults.firsts.Given as goal

-- those so far are the first ones, whatever follows
abbrev pub invariant-loop-finding : goal.invariant-loop-finding
invariant-loop-finding l = record {
  whatever : (rest : List Finding) → firsts_after 0 (l.yielded ++ rest) ≡ l.out ++ firsts_after l.last rest;
  so_far : l.out ≡ firsts l.yielded;
}
