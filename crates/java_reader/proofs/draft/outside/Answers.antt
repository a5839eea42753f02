use Rattle.std.proofs.Common.{◌∙◌, sym}
use Rattle.java_phrases.specs.Common.{ahead}
use Rattle.java_reader.proofs.Advanced.{package-advances, import-advances, header-advances}
use Rattle.java_reader.proofs.draft.outside.Goals as goal

pub returns-then-sees : goal.returns-then-sees
returns-then-sees c =
    package-advances c.args.file (ahead c.args.tokens.now) (ahead c.with_package.new.tokens) c.with_package.result (sym c.sees.ensures ∙ c.if-sees.true) c.with_package.ensures

pub returns-then-sees-2 : goal.returns-then-sees-2
returns-then-sees-2 c =
    import-advances c.args.file (ahead c.args.tokens.now) (ahead c.with_import.new.tokens) c.with_import.result (sym c.sees.ensures ∙ c.if-sees.false) (sym c.sees-else-sees.ensures ∙ c.if-sees-2.true) c.with_import.ensures

pub returns-else-sees-2 : goal.returns-else-sees-2
returns-else-sees-2 c =
    header-advances c.args.file (ahead c.args.tokens.now) (ahead c.with_header.new.tokens) c.with_header.result (sym c.sees.ensures ∙ c.if-sees.false) (sym c.sees-else-sees.ensures ∙ c.if-sees-2.false) c.with_header.ensures
