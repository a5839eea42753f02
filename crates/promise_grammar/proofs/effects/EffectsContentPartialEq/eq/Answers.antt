use Rattle.std.proofs.Common.{sym, ◌∙◌}
use Rattle.promise_grammar.specs.Same.{effects_decides}
use Rattle.promise_grammar.proofs.effects.EffectsContentPartialEq.eq.Goals as goal

pub returns-clause-exact : goal.returns-clause-exact
returns-clause-exact c =
    let decides = effects_decides c.args.self.now c.args.other.now in
    ((λ h. decides.0 (sym c.same_effects.ensures ∙ h)), (λ e. c.same_effects.ensures ∙ decides.1 e))
