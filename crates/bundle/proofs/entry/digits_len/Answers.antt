use Rattle.std.proofs.Common.{length, sym, arith}
use Rattle.std.proofs.lemmas.List.Sums.{prefix_len_is}
use Rattle.std.specs.Char.{is_ascii_digit}
use Rattle.bundle.proofs.entry.digits_len.Goals as goal

pub returns-clause-len : goal.returns-clause-len
returns-clause-len c =
    sym (prefix_len_is is_ascii_digit c.args.bytes.now (length c.args.bytes.now) 0 (omega arith)
    (λ k low. c.loop-i.invariant k (omega arith)) (λ low. absurd (omega arith)))
