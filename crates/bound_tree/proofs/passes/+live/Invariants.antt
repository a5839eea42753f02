use Rattle.std.proofs.Common.{◌≡◌, take}
use Rattle.bound_tree.specs.Live.{live}
use Rattle.bound_tree.specs.Ways.{whole}
use Rattle.bound_tree.proofs.passes.+live.Given as goal

abbrev pub invariant-live-loop-way : goal.invariant-live-loop-way
invariant-live-loop-way l = l.can ≡ live l.local (whole (take l.way-index l.flow)) l.after
