use Rattle.std.proofs.Common.{sym, ◌∙◌}
use Rattle.promise_grammar.specs.SameTree.{tree_decides}
use Rattle.promise_grammar.proofs.same.PromiseTreePartialEq.eq.Goals as goal

pub returns-clause-exact : goal.returns-clause-exact
returns-clause-exact c =
    let decides = tree_decides c.args.self.now c.args.other.now in
    ((λ h. decides.0 (sym c.is_same.ensures ∙ h)), (λ e. c.is_same.ensures ∙ decides.1 e))
