use Rattle.promise_grammar.proofs.PeelLaws.{same_tree}
use Rattle.promise_grammar.proofs.read.one_tree.Goals as goal

pub returns : goal.returns
returns c = same_tree
