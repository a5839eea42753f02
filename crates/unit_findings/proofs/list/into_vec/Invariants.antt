use Rattle.std.proofs.Common.{◌≡◌, ◌++◌, reverse, length}
use Rattle.unit_findings.proofs.list.into_vec.Given as goal

-- what is left, and behind it what was moved, from the back
abbrev pub invariant-loop-last : goal.invariant-loop-last
invariant-loop-last l = l.findings ++ reverse l.moved.items ≡ l.initial.findings

abbrev pub decreases-loop-last : goal.decreases-loop-last
decreases-loop-last l = length l.findings
