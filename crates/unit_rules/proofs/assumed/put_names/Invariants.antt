use Rattle.std.proofs.Common.{◌≡◌, ◌++◌, drop}
use Rattle.unit_rules.specs.Assumed.{named}
use Rattle.unit_rules.proofs.assumed.put_names.Given as goal

-- those so far and those of what is left are all
abbrev pub invariant-loop-name : goal.invariant-loop-name
invariant-loop-name l = l.notes ++ named (drop l.name-index l.names) ≡ l.fn.notes ++ named l.names
