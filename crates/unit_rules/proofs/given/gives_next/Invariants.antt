use Rattle.std.proofs.Common.{◌≡◌, drop, take, true}
use Rattle.std.specs.List.{list_all}
use Rattle.unit_rules.specs.Given.{has_content}
use Rattle.unit_rules.proofs.given.gives_next.Given as goal

-- those so far have it
abbrev pub invariant-loop-k : goal.invariant-loop-k
invariant-loop-k l = list_all (has_content l.tree l.param) (take l.k (drop l.from l.promises)) ≡ true
