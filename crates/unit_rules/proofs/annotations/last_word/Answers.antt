use Rattle.std.proofs.Common.{sym, ap, ◌∙◌, ◌≡◌, ◌+◌, ◌-◌, length, arith}
use Rattle.promise_marks.proofs.Putting.{last_at}
use Rattle.unit_rules.proofs.annotations.last_word.Goals as goal

pub returns-in-len1-up : goal.returns-in-len1-up
returns-in-len1-up c =
    let words = c.args.words.now in
    let long : (length words - 1) + 1 ≡ length words = omega (arith, c.in-len1-up.len_at_least) in
    c.as_slice.ensures ∙ ap (λ w. w.text) c.last-item.is ∙ sym (last_at words (length words - 1) c.last-item.result long)
