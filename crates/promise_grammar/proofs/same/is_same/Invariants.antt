use Rattle.std.proofs.Common.{◌≡◌}
use Rattle.promise_grammar.specs.SameTree.{same_tree}
use Rattle.promise_grammar.proofs.same.is_same.Given as goal

-- what is left to compare decides
abbrev pub invariant-loop-one : goal.invariant-loop-one
invariant-loop-one l = same_tree l.fn.tree l.fn.like ≡ same_tree l.one l.other
