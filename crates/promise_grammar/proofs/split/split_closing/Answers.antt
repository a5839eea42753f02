use Rattle.std.proofs.Common.{arith}
use Rattle.promise_grammar.proofs.Splitting.{closed_here}
use Rattle.promise_grammar.proofs.split.split_closing.Goals as goal

pub returns-then-not-ends : goal.returns-then-not-ends
returns-then-not-ends c =
    closed_here c.args.bytes.now c.backwards.at c.backwards.ends (omega arith) c.backwards.invariant.0 c.backwards.invariant.1 c.backwards.invariant.2 (cc) c.if-byte-eq41.true
