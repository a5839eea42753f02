use Rattle.std.proofs.Common.{◌≡◌, ℕ, suc, ◌-◌, ap, sym, subst, arith}
use Rattle.java_phrases.specs.Common.{ahead, Steps}
use Rattle.java_statements.specs.Reading.{action_read}
use Rattle.java_statements.proofs.actions.action.Goals as goal

pub returns-then-limit-eq0 : goal.returns-then-limit-eq0
unfolding action_read
returns-then-limit-eq0 c = λ _. let none : c.args.limit ≡ 0 = omega arith in ap (λ n. action_read n (ahead c.args.tokens.now)) none

pub returns : goal.returns
unfolding action_read
returns c =
    let deeper : c.args.limit ≡ suc (c.args.limit - 1) = omega arith in
    let P : ℕ → Type 0 = λ n. Steps (action_read n) c.args.tokens.now c.action_within.result c.action_within.new.tokens in
    subst P (sym deeper) c.action_within.ensures
