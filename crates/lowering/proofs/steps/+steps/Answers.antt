use Rattle.std.proofs.Common.{◌≡◌, ◌++◌, ℕ, List, drop, arith, ap, sym, ◌∙◌}
use Rattle.lowering.specs.declared.code.NamedInstr.{NamedInstr}
use Rattle.lowering.specs.Steps.{steps_of, list_steps}
use Rattle.lowering.proofs.Stepping.{steps-listed}
use Rattle.lowering.proofs.steps.+steps.Goals as goal

pub push_steps-returns : goal.push_steps-returns
push_steps-returns t c =
    let none : c.loop-at.at ≡ 0 = omega (arith, c.loop-at-test.false) in
    c.loop-at.invariant.is
    ∙ ap (λ (n : ℕ). c.args.list.now ++ list_steps (drop n c.as_slice-instrs.result.now)) none
    ∙ ap (λ (xs : List NamedInstr). c.args.list.now ++ list_steps xs) c.as_slice-instrs.ensures
    ∙ ap (λ (l : List ℕ). c.args.list.now ++ l) (sym (steps-listed c.code.inside.instrs) ∙ ap steps_of c.code.view_is)
