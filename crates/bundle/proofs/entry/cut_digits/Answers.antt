use Rattle.std.specs.Char.{is_ascii_digit}
use Rattle.bundle.proofs.Fronts.{passes-take_while}
use Rattle.bundle.proofs.entry.cut_digits.Goals as goal

pub returns-clause-digits : goal.returns-clause-digits
returns-clause-digits c = rw (c.split_at.ensures.front, c.digits_len.ensures.len) (passes-take_while is_ascii_digit c.args.bytes.now)
