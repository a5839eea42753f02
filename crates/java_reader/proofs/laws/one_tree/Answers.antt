use Rattle.java_reader.proofs.Causes.{one-tree}
use Rattle.java_reader.proofs.laws.one_tree.Goals as goal

pub returns : goal.returns
returns c = one-tree c.one_reading.ensures.list c.one_reading.ensures.place c.one_reading.ensures.apart
