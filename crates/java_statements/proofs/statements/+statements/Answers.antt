use Rattle.std.proofs.Common.{◌≡◌, ℕ, suc, ◌-◌, not, refl, ap, ◌∙◌, sym, subst, arith, rules}
use Rattle.java_phrases.specs.Common.{ahead, Steps}
use Rattle.java_phrases.proofs.Loops.{loop_ends}
use Rattle.java_statements.specs.Reading.{goes_on, one_more, items, statement, block}
use Rattle.java_statements.proofs.Turns.{start_is, item_more, item_fails, item-shorter}
use Rattle.java_statements.proofs.statements.+statements.Goals as goal

pub block-returns-then-limit-eq0 : goal.block-returns-then-limit-eq0
unfolding block
block-returns-then-limit-eq0 t c = λ _. let none : c.args.limit ≡ 0 = omega arith in ap (λ n. block n (ahead c.args.tokens.now)) none

pub block-returns : goal.block-returns
unfolding block
block-returns t c =
    let deeper : c.args.limit ≡ suc (c.args.limit - 1) = omega arith in
    let P : ℕ → Type 0 = λ n. Steps (block n) c.args.tokens.now c.block_within.result c.block_within.new.tokens in
    subst P (sym deeper) c.block_within.ensures

pub statement-returns-then-limit-eq0 : goal.statement-returns-then-limit-eq0
unfolding statement
statement-returns-then-limit-eq0 t c = λ _. let none : c.args.limit ≡ 0 = omega arith in ap (λ n. statement n (ahead c.args.tokens.now)) none

pub statement-returns : goal.statement-returns
unfolding statement
statement-returns t c =
    let deeper : c.args.limit ≡ suc (c.args.limit - 1) = omega arith in
    let P : ℕ → Type 0 = λ n. Steps (statement n) c.args.tokens.now c.stmt_within.result c.stmt_within.new.tokens in
    subst P (sym deeper) c.stmt_within.ensures

pub items-more-init : goal.items-more-init
items-more-init t c = record { reads = start_is c.args.room _ _ c.new-found.ensures; moved = refl }

pub items-returns-in_err-block_item : goal.items-returns-in_err-block_item
unfolding items
items-returns-in_err-block_item t c =
    let fails = item_fails c.args.room _ _ _ c.more.invariant.reads (ap not (sym c.sees.ensures ∙ c.more-test.true)) in
    search rules

pub items-more-smaller : goal.items-more-smaller
items-more-smaller t c = item-shorter c.args.room _ _ _ c.in_ok-block_item.ensures.0

pub items-more-preserved : goal.items-more-preserved
items-more-preserved t c = record {
  reads = item_more c.args.room _ _ _ _ _ _ c.more.invariant.reads (ap not (sym c.sees.ensures ∙ c.more-test.true)) c.in_ok-block_item.ensures.0 c.in_ok-push.ensures.ok;
  moved = c.in_ok-block_item.ensures.1 ∙ c.more.invariant.moved;
}

pub items-returns : goal.items-returns
unfolding items
items-returns t c =
    (loop_ends (goes_on c.args.room (statement c.args.room)) (one_more c.args.room (statement c.args.room)) _ _ _ _ c.more.invariant.reads (ap not (sym c.sees.ensures ∙ c.more-test.false)), c.more.invariant.moved)
