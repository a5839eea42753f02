use Rattle.std.proofs.Common.{◌≡◌, ◌++◌, map, take}
use Rattle.project_surfaces.specs.Keys.{aside_key}
use Rattle.project_surfaces.proofs.keys.put_asides.Given as goal

-- the keys so far
abbrev pub invariant-loop-promise : goal.invariant-loop-promise
invariant-loop-promise l = l.keys.items ≡ l.fn.keys.items ++ map aside_key (take l.promise-index l.promises)
