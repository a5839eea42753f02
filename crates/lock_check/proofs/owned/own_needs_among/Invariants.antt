use Rattle.std.proofs.Common.{◌≡◌, ◌++◌, drop}
use Rattle.views.specs.Face.{face}
use Rattle.lock_check.specs.Needs.{need_of}
use Rattle.lock_check.specs.Owned.{own_needs_from}
use Rattle.lock_check.proofs.owned.own_needs_among.Given as goal

-- those so far and those of the promises that are left are all
abbrev pub invariant-loop-at : goal.invariant-loop-at
invariant-loop-at l =
    l.needs ++ own_needs_from (need_of (face l.view) l.site.class.now l.site.params.now) l.places l.at (drop l.at l.promises)
    ≡ own_needs_from (need_of (face l.view) l.site.class.now l.site.params.now) l.places 0 l.promises
