use Rattle.std.proofs.Common.{◌≡◌, ℕ, suc, ◌-◌, ap, sym, subst, arith}
use Rattle.java_expressions.specs.Reading.{post_read}
use Rattle.java_phrases.specs.Common.{ahead, Steps}
use Rattle.java_expressions.proofs.grammar.post_read.Goals as goal

pub returns-then-limit-eq0 : goal.returns-then-limit-eq0
unfolding post_read
returns-then-limit-eq0 c = λ _. let none : c.args.limit ≡ 0 = omega arith in ap (λ n. post_read n (ahead c.args.tokens.now)) none

pub returns : goal.returns
unfolding post_read
returns c =
    let deeper : c.args.limit ≡ suc (c.args.limit - 1) = omega arith in
    let P : ℕ → Type 0 = λ n. Steps (post_read n) c.args.tokens.now c.post.result c.post.new.tokens in
    subst P (sym deeper) c.post.ensures
