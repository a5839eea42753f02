use Rattle.std.proofs.Common.{◌≡◌, take}
use Rattle.std.specs.List.{flat_map}
use Rattle.views.specs.Face.{face}
use Rattle.lock_check.specs.Locks.{guard_by}
use Rattle.lock_check.proofs.locks.guards_among.Given as goal

abbrev pub invariant-loop-at : goal.invariant-loop-at
invariant-loop-at l = l.guards ≡ flat_map (guard_by (face l.view l.class) l.class l.field) (take l.at l.promises)
