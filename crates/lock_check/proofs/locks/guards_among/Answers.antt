use Rattle.std.specs.Option.{option_copied}
use Rattle.views.specs.Face.{face}
use Rattle.lock_check.specs.Locks.{guard_by}
use Rattle.lock_check.proofs.Walks.{flat_next}
use Rattle.lock_check.proofs.locks.guards_among.Goals as goal

pub loop-at-preserved : goal.loop-at-preserved
loop-at-preserved c =
    let a = c.args in
    flat_next (guard_by (face a.view.now a.class.now) a.class.now a.field.now) a.promises.now c.loop-at.at (option_copied c.get.result) c.loop-at.guards
    c.put_guard_at.new.out c.get.ensures c.loop-at.invariant c.in_ok-put_guard_at.ensures
