use Rattle.std.proofs.lemmas.Result.{err_from_is_err_and}
use Rattle.java_reader.proofs.draft.with_package.Goals as goal

pub returns-in_err-package : goal.returns-in_err-package
returns-in_err-package c =
    let p = err_from_is_err_and c.from_residual.result c.from_residual.ensures.1 in
    rw (p.1, p.2) (λ other x l s. other (c.in_err-package.ensures.only x l s.1))
