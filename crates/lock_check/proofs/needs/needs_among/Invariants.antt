use Rattle.std.proofs.Common.{◌≡◌, map, take}
use Rattle.std.specs.Prelude.{filter}
use Rattle.views.specs.Face.{face}
use Rattle.lock_check.specs.Needs.{asks_lock, need_of}
use Rattle.lock_check.proofs.needs.needs_among.Given as goal

abbrev pub invariant-loop-at : goal.invariant-loop-at
invariant-loop-at l = l.needs ≡ map (need_of (face l.view) l.site.class.now l.site.params.now) (filter asks_lock (take l.at l.promises))
