use Rattle.std.proofs.lemmas.Result.{err_from_is_err_and}
use Rattle.java_reader.proofs.draft.with_import.Goals as goal

pub returns-in_err-import : goal.returns-in_err-import
returns-in_err-import c =
    let p = err_from_is_err_and c.from_residual.result c.from_residual.ensures.1 in
    rw (p.1, p.2) (λ other x l s. other (c.in_err-import.ensures.only x l s.1))
