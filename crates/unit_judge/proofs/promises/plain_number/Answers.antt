use Rattle.std.proofs.Common.{◌≡◌, ◌∙◌, ℕ, ap, sym, Result, Ok, Err}
use Rattle.std.specs.Prelude.{decimal}
use Rattle.std.proofs.lemmas.Fmt.{parse-decimal}
use Rattle.unit_judge.proofs.promises.plain_number.Goals as goal

pub returns-else-is_written : goal.returns-else-is_written
returns-else-is_written c k small same =
    let read = parse-decimal 64 k c.args.digits.now c.parse.result small small same c.parse.ensures.value.0 in
    let number : k ≡ c.in-Ok.number = (cc (sym read ∙ c.in-Ok.is)) in
    let yes = c.is_written.ensures.1 (same ∙ ap decimal number) in
    (cc (sym c.if-is_written.false ∙ yes))

pub returns-in-Err : goal.returns-in-Err
returns-in-Err c k small same =
    let read = parse-decimal 64 k c.args.digits.now c.parse.result small small same c.parse.ensures.value.0 in
    (cc (sym read ∙ c.in-Err.is))
