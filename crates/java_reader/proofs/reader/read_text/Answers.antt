use Rattle.std.proofs.Common.{◌≤◌, length, arith}
use Rattle.java_reader.proofs.Causes.{text-cause}
use Rattle.java_reader.proofs.reader.read_text.Goals as goal

pub returns-in-Ok-clause-cause : goal.returns-in-Ok-clause-cause
returns-in-Ok-clause-cause c =
    let fits : length c.args.text.now ≤ 262144 = omega (arith, c.max-most.ensures) in
    text-cause c.args.text.now c.in-Ok.tokens c.read_tokens.result fits c.in-Ok.ensures.found c.read_tokens.ensures.cause
