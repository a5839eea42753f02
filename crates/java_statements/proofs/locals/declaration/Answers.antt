use Rattle.std.proofs.Common.{◌≡◌, ℕ, suc, ◌-◌, ap, sym, subst, arith}
use Rattle.java_phrases.specs.Common.{ahead, Steps}
use Rattle.java_statements.specs.Reading.{declaration}
use Rattle.java_statements.proofs.locals.declaration.Goals as goal

pub returns-then-limit-eq0 : goal.returns-then-limit-eq0
unfolding declaration
returns-then-limit-eq0 c = λ _. let none : c.args.limit ≡ 0 = omega arith in ap (λ n. declaration n (ahead c.args.tokens.now)) none

pub returns : goal.returns
unfolding declaration
returns c =
    let deeper : c.args.limit ≡ suc (c.args.limit - 1) = omega arith in
    let P : ℕ → Type 0 = λ n. Steps (declaration n) c.args.tokens.now c.declaration_within.result c.declaration_within.new.tokens in
    subst P (sym deeper) c.declaration_within.ensures
