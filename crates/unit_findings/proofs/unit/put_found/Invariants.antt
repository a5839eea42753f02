use Rattle.std.proofs.Common.{◌≡◌, ◌++◌, map}
use Rattle.std.specs.Option.{option_copied}
use Rattle.unit_findings.specs.Vouches.{vouched}
use Rattle.unit_findings.proofs.unit.put_found.Given as goal

-- those that were found so far
abbrev pub invariant-loop-finding : goal.invariant-loop-finding
invariant-loop-finding l = l.out ≡ l.initial.out ++ map (vouched (option_copied l.vouch)) l.yielded
