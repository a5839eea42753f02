use Rattle.std.proofs.lemmas.Result.{err_from_is_err_and}
use Rattle.java_reader.proofs.draft.with_header.Goals as goal

pub returns-in_err-header : goal.returns-in_err-header
returns-in_err-header c =
    let p = err_from_is_err_and c.from_residual.result c.from_residual.ensures.1 in
    rw (p.1, p.2) (λ other x l s. other (c.in_err-header.ensures.only x l s.1))
