use Rattle.std.proofs.Common.{◌≡◌, ◌++◌, map, take}
use Rattle.bound_tree.specs.Claims.{varies_in}
use Rattle.bound_tree.specs.Reading.{terms_of}
use Rattle.bound_tree.specs.Shown.{claims_as}
use Rattle.lock_findings.specs.Rows.{call_finding}
use Rattle.lock_findings.proofs.row.Judge.put_needs.Given as goal

abbrev pub invariant-loop-need : goal.invariant-loop-need
invariant-loop-need g l = l.out ≡ l.fn.out ++ map (call_finding l.self.own.now (varies_in l.self.varies.now) (claims_as l.spot.claims.now) l.spot.at l.subject l.receiver (terms_of l.args)) (take l.need-index l.needs)
