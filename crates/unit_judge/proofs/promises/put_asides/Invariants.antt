use Rattle.std.proofs.Common.{◌≡◌, ◌++◌, take}
use Rattle.unit_judge.specs.Promises.{aside_promises}
use Rattle.unit_judge.proofs.promises.put_asides.Given as goal

-- those so far
abbrev pub invariant-loop-aside : goal.invariant-loop-aside
invariant-loop-aside l = l.out.items ≡ l.fn.out.items ++ aside_promises l.unit l.places (take l.aside-index l.asides)
