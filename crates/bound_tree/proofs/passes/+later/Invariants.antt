use Rattle.std.proofs.Common.{◌≡◌, take}
use Rattle.bound_tree.specs.Live.{live, named_later}
use Rattle.bound_tree.specs.Ways.{whole}
use Rattle.bound_tree.proofs.passes.+later.Given as goal

abbrev pub invariant-named_later-loop-way : goal.invariant-named_later-loop-way
invariant-named_later-loop-way l = record { can : l.can ≡ live l.local (whole (take l.way-index l.flow)) l.after; told : l.later ≡ named_later l.local l.at (whole (take l.way-index l.flow)) l.after }
