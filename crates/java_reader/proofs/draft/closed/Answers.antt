use Rattle.std.proofs.lemmas.Result.{err_from_is_err_and}
use Rattle.java_phrases.specs.Tree.{Kind as k}
use Rattle.java_phrases.specs.Common.{ahead}
use Rattle.java_heads.proofs.Lists.{mark-sound}
use Rattle.java_reader.proofs.Advanced.{no-brace, closed-draft}
use Rattle.java_reader.proofs.draft.closed.Goals as goal

pub returns-in_err-sign : goal.returns-in_err-sign
returns-in_err-sign c =
    let p = err_from_is_err_and c.from_residual.result c.from_residual.ensures.1 in
    rw (p.1, p.2) (λ other x l s. no-brace (ahead c.args.tokens.now) l (c.in_err-sign.ensures other) s.1)

pub returns : goal.returns
returns c = (
  tt,
  (tt, mark-sound k.RBrace (ahead c.args.tokens.now) (ahead c.sign.new.self) c.in_ok-sign.field-0 c.in_ok-sign.ensures.0),
  closed-draft c.args.file c.args.class c.push.new.self c.in_ok-push.ensures.ok,
)
