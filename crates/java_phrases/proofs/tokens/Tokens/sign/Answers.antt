use Rattle.std.proofs.Common.{◌∙◌, sym}
use Rattle.java_phrases.proofs.Token.{seen, sign_found, sign_unseen, moved}
use Rattle.java_phrases.proofs.tokens.Tokens.sign.Goals as goal

pub returns-then-not-sees : goal.returns-then-not-sees
returns-then-not-sees c = λ _. sign_unseen _ _ (sym c.sees.ensures ∙ c.if-not-sees.true)

pub returns : goal.returns
returns c = (
  sign_found _ _ _ _ c.in-Some.ensures.token (seen _ _ _ _ c.in-Some.ensures.token (sym c.sees.ensures ∙ c.if-not-sees.false)),
  moved _ _ _ _ _ _ c.take.ensures.taken c.in_ok-push.ensures.ok c.in-Some.ensures.token,
)
