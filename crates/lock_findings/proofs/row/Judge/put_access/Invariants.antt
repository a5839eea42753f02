use Rattle.std.proofs.Common.{◌≡◌, ◌++◌, map, take}
use Rattle.bound_tree.specs.Shown.{claims_as}
use Rattle.lock_findings.specs.Rows.{access_finding}
use Rattle.lock_findings.proofs.row.Judge.put_access.Given as goal

abbrev pub invariant-loop-guard : goal.invariant-loop-guard
invariant-loop-guard g l = l.out ≡ l.fn.out ++ map (access_finding l.code l.self.own.now (claims_as l.spot.claims.now) l.spot.at l.field l.base) (take l.guard-index l.guard-items)
