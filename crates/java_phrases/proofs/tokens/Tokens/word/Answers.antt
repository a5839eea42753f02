use Rattle.std.proofs.Common.{◌≡◌, ◌∙◌, sym}
use Rattle.java_phrases.proofs.Token.{seen, word_found, word_unseen, moved}
use Rattle.java_phrases.proofs.tokens.Tokens.word.Goals as goal

pub returns-then-not-sees : goal.returns-then-not-sees
returns-then-not-sees c = λ _. word_unseen _ _ (sym c.sees.ensures ∙ c.if-not-sees.true)

pub returns : goal.returns
returns c =
    let same : c.in_ok-name.name ≡ c.in-Some.token.bytes = c.in_ok-name.ensures ∙ c.as_slice.ensures in (
      word_found _ _ _ _ _ same c.in-Some.ensures.token (seen _ _ _ _ c.in-Some.ensures.token (sym c.sees.ensures ∙ c.if-not-sees.false)),
      moved _ _ _ _ _ _ c.take.ensures.taken c.in_ok-push.ensures.ok c.in-Some.ensures.token,
    )
