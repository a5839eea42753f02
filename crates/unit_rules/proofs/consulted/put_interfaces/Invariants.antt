use Rattle.std.proofs.Common.{◌≡◌, ◌++◌, drop}
use Rattle.unit_rules.proofs.consulted.put_interfaces.Given as goal

-- those so far and those of what is left are all
abbrev pub invariant-loop-name : goal.invariant-loop-name
invariant-loop-name l = l.names ++ drop l.name-index l.interfaces ≡ l.fn.names ++ l.interfaces
