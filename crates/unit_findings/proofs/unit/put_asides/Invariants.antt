use Rattle.std.proofs.Common.{◌≡◌, ◌++◌, map, take}
use Rattle.std.specs.Option.{option_copied}
use Rattle.unit_findings.specs.Promises.{aside_findings}
use Rattle.unit_findings.specs.Vouches.{vouched}
use Rattle.unit_findings.proofs.unit.put_asides.Given as goal

-- those of the promises so far
abbrev pub invariant-loop-promise : goal.invariant-loop-promise
invariant-loop-promise l = l.out ≡ l.initial.out ++ map (vouched (option_copied l.vouch)) (aside_findings l.unit (take l.promise-index l.promises))
