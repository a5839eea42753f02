use Rattle.std.specs.Option.{option_copied}
use Rattle.views.specs.Face.{face}
use Rattle.lock_check.specs.Needs.{asks_lock, need_of}
use Rattle.lock_check.proofs.Walks.{map_next}
use Rattle.lock_check.proofs.needs.needs_among.Goals as goal

pub loop-at-preserved : goal.loop-at-preserved
loop-at-preserved c =
    let a = c.args in
    map_next (need_of (face a.view.now) a.site.now.class.now a.site.now.params.now) asks_lock a.promises.now c.loop-at.at (option_copied c.get.result) c.loop-at.needs
    c.put_need_at.new.out c.get.ensures c.loop-at.invariant c.in_ok-put_need_at.ensures
