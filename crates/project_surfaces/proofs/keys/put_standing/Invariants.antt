use Rattle.std.proofs.Common.{◌≡◌, ◌++◌, map, take}
use Rattle.project_surfaces.specs.Keys.{standing_key}
use Rattle.project_surfaces.proofs.keys.put_standing.Given as goal

-- the keys so far
abbrev pub invariant-loop-promise : goal.invariant-loop-promise
invariant-loop-promise l = l.keys.items ≡ l.fn.keys.items ++ map standing_key (take l.promise-index l.promises)
