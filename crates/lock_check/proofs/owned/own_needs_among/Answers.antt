use Rattle.std.proofs.Common.{arith}
use Rattle.std.specs.Option.{option_copied}
use Rattle.views.specs.Face.{face}
use Rattle.lock_check.specs.Needs.{need_of}
use Rattle.lock_check.proofs.Walks.{own_all, own_next, own_start}
use Rattle.lock_check.proofs.owned.own_needs_among.Goals as goal

pub loop-at-init : goal.loop-at-init
loop-at-init c =
    let a = c.args in
    own_start (need_of (face a.view.now) a.site.now.class.now a.site.now.params.now) a.places.now a.promises.now c.new-needs.result c.new-needs.ensures

pub loop-at-preserved : goal.loop-at-preserved
loop-at-preserved c =
    let a = c.args in
    own_next (need_of (face a.view.now) a.site.now.class.now a.site.now.params.now) a.places.now a.promises.now c.loop-at.at c.place_at-place.result
    (option_copied c.get.result) c.loop-at.needs c.put_own_need.new.out _ (omega arith) c.get.ensures c.place_at-place.ensures c.loop-at.invariant c.in_ok-put_own_need.ensures

pub returns : goal.returns
returns c =
    let a = c.args in
    own_all (need_of (face a.view.now) a.site.now.class.now a.site.now.params.now) a.places.now a.promises.now c.loop-at.at c.loop-at.needs (omega arith) c.loop-at.invariant
