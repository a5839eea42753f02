use Rattle.std.proofs.Common.{ap}
use Rattle.bound_tree.specs.Ways.{whole}
use Rattle.bound_tree.proofs.way.no_ways.Goals as goal

pub returns : goal.returns
returns c = ap whole c.new.ensures
