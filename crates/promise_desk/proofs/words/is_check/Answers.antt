use Rattle.std.proofs.Common.{codes, string_bytes, ap, ◌∙◌, nat_eq}
use Rattle.std.specs.Cmp.Lexicographic.{pointwise}
use Rattle.promise_desk.proofs.OneWord.{check_law}
use Rattle.promise_desk.proofs.words.is_check.Goals as goal

pub returns : goal.returns
returns c =
    check_law string_bytes c.args.words.now c.index-words-0.result (codes "check") c.eq.result c.if-words-ne1.false c.index-words-0.is (c.eq.ensures ∙ ap (λ w. pointwise nat_eq w (codes "check")) c.as_str.ensures.value)
