use Rattle.std.proofs.lemmas.Result.{err_from_is_err_and}
use Rattle.java_phrases.specs.Common.{ahead}
use Rattle.java_members.proofs.Members.{whole-finds, whole-lost}
use Rattle.java_members.proofs.body.whole.Goals as goal

pub returns-in_err-heading-clause-reads : goal.returns-in_err-heading-clause-reads
returns-in_err-heading-clause-reads c =
    let p = err_from_is_err_and c.from_residual.result c.from_residual.ensures.1 in
    rw (p.1, p.2) (λ differs y other s. whole-lost c.args.class_name.now (ahead c.args.tokens.now) _ c.in_err-heading.ensures.only differs y other s)

pub returns-clause-reads : goal.returns-clause-reads
returns-clause-reads c =
    whole-finds c.args.class_name.now (ahead c.args.tokens.now) (ahead c.read_heading.new.tokens) (ahead c.completed.new.tokens) c.in_ok-heading.heading c.completed.result c.in_ok-heading.ensures.found
    c.in_ok-heading.ensures.only c.completed.ensures.reads
