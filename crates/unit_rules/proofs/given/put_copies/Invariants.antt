use Rattle.std.proofs.Common.{◌≡◌, ◌++◌, ◌≤◌, ◌-◌}
use Rattle.std.specs.Prelude.{replicate}
use Rattle.unit_rules.proofs.given.put_copies.Given as goal

-- so many are put
abbrev pub invariant-loop-put : goal.invariant-loop-put
invariant-loop-put l = record {
  within : l.put ≤ l.count;
  out : l.out ≡ l.fn.out ++ replicate l.put l.at;
}

abbrev pub decreases-loop-put : goal.decreases-loop-put
decreases-loop-put l = l.count - l.put
