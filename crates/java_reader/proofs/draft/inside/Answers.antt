use Rattle.std.proofs.Common.{◌∙◌, sym}
use Rattle.java_phrases.specs.Common.{ahead}
use Rattle.java_reader.proofs.Advanced.{closing-advances, inner-advances}
use Rattle.java_reader.proofs.draft.inside.Goals as goal

pub returns-then-sees : goal.returns-then-sees
returns-then-sees c =
    closing-advances c.args.file c.args.class (ahead c.args.tokens.now) (ahead c.closed.new.tokens) c.closed.result (sym c.sees.ensures ∙ c.if-sees.true) c.closed.ensures

pub returns-else-sees : goal.returns-else-sees
returns-else-sees c =
    inner-advances c.args.file c.args.class (ahead c.args.tokens.now) (ahead c.with_member.new.tokens) c.with_member.result (sym c.sees.ensures ∙ c.if-sees.false) c.with_member.ensures
