use Rattle.std.proofs.Common.{sym, refl}
use Rattle.std.proofs.lemmas.Result.{err_from_is_err_and}
use Rattle.java_phrases.specs.Common.{ahead}
use Rattle.java_reader.proofs.Drafted.{begun-blank}
use Rattle.java_reader.proofs.Looped.{shorter, preserved, fault, whole-found, whole-cause}
use Rattle.java_reader.proofs.file.read_ahead.Goals as goal

pub parts-init : goal.parts-init
parts-init c = begun-blank (ahead c.args.tokens.now) (ahead c.args.tokens.now) c.blank_draft-draft.result refl c.blank_draft-draft.ensures

pub returns-in_err-draft-clause-cause : goal.returns-in_err-draft-clause-cause
returns-in_err-draft-clause-cause c =
    let p = err_from_is_err_and c.from_residual.result c.from_residual.ensures.1 in
    rw (p.1, p.2) (fault c.args.end c.in-Some.at (ahead c.args.tokens.now) (ahead c.parts.tokens) (ahead c.next_part.new.tokens) c.parts.draft _ c.parts.invariant (sym c.in-Some.ensures) c.in_err-draft.ensures)

pub parts-smaller : goal.parts-smaller
parts-smaller c = shorter c.in-Some.at c.parts.draft c.in_ok-draft.draft (ahead c.parts.tokens) (ahead c.next_part.new.tokens) c.in_ok-draft.ensures

pub parts-preserved : goal.parts-preserved
parts-preserved c = preserved c.in-Some.at (ahead c.args.tokens.now) c.parts.draft c.in_ok-draft.draft (ahead c.parts.tokens) (ahead c.next_part.new.tokens) c.parts.invariant c.in_ok-draft.ensures

pub returns-clause-found : goal.returns-clause-found
returns-clause-found c = whole-found c.args.end (ahead c.args.tokens.now) (ahead c.parts.tokens) c.parts.draft c.whole.result c.parts.invariant (sym c.in_default.ensures) c.whole.ensures

pub returns-clause-cause : goal.returns-clause-cause
returns-clause-cause c = whole-cause c.args.end (ahead c.args.tokens.now) (ahead c.parts.tokens) c.parts.draft c.whole.result c.parts.invariant (sym c.in_default.ensures) c.whole.ensures
