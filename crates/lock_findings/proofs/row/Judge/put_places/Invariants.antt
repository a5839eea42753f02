use Rattle.std.proofs.Common.{◌≡◌, ◌++◌, take}
use Rattle.std.specs.List.{flat_map}
use Rattle.bound_tree.specs.Claims.{varies_in}
use Rattle.lock_findings.specs.LockFindings.{kept_findings}
use Rattle.lock_findings.proofs.row.Judge.put_places.Given as goal

abbrev pub invariant-loop-place : goal.invariant-loop-place
invariant-loop-place g l = l.out ≡ l.fn.out ++ flat_map (kept_findings (g.P.LockPromises.promises l.self.promises.now) l.self.own.now (varies_in l.self.varies.now)) (take l.place-index l.places)
