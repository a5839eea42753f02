use Rattle.std.proofs.Common.{◌≡◌, ℕ, suc, ◌-◌, ap, sym, subst, arith}
use Rattle.java_expressions.specs.Reading.{expr}
use Rattle.java_phrases.specs.Common.{ahead, Steps}
use Rattle.java_expressions.proofs.grammar.+expr.Goals as goal

pub returns-then-limit-eq0 : goal.returns-then-limit-eq0
unfolding expr
returns-then-limit-eq0 t c = λ _. let none : c.args.limit ≡ 0 = omega arith in ap (λ n. expr n c.args.least (ahead c.args.tokens.now)) none

pub returns : goal.returns
unfolding expr
returns t c =
    let deeper : c.args.limit ≡ suc (c.args.limit - 1) = omega arith in
    let P : ℕ → Type 0 = λ n. Steps (expr n c.args.least) c.args.tokens.now c.level.result c.level.new.tokens in
    subst P (sym deeper) c.level.ensures
