use Rattle.std.proofs.Common.{◌≡◌, ◌==◌, true, length, ap, sym}
use Rattle.bundle.proofs.Whole.{no_end_law, more_law}
use Rattle.bundle.proofs.bundle.check_bundle.Goals as goal

pub returns-in-None-clause-only : goal.returns-in-None-clause-only
returns-in-None-clause-only c files is =
    absurd (no_end_law c.args.bytes.now c.in_ok-rest.rest.now files c.in_ok-rest.ensures.ok (sym c.in-None.ensures) is)

pub returns-in-Some-2-clause-only : goal.returns-in-Some-2-clause-only
returns-in-Some-2-clause-only c files is =
    let e = more_law c.args.bytes.now c.in_ok-rest.rest.now c.in-Some.more.now files c.in_ok-rest.ensures.ok (sym c.in-Some.ensures) is in
    let empty : (length c.in-Some.more.now == 0) ≡ true = ap (λ l. length l == 0) e in
    cc c.if-is_empty.ensures
