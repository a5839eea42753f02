use Rattle.std.proofs.Common.{◌≤◌, length}
use Rattle.promise_desk.specs.Output.{HasRoom}
use Rattle.promise_desk.proofs.Outputs.{Written}
use Rattle.promise_desk.proofs.output.write_all.Given as goal

-- what was written so far, and what is left
abbrev pub invariant-loop-rest : goal.invariant-loop-rest
invariant-loop-rest g l = record {
  written : Written (g.O.Sink.written l.fn.out) (g.O.Sink.written l.out) l.text l.rest;
  counts : g.O.Sink.faults l.fn.out ≤ g.O.Sink.faults l.out;
  room : HasRoom (g.O.Sink.room l.fn.out) (length l.text) → HasRoom (g.O.Sink.room l.out) (length l.rest);
}

abbrev pub decreases-loop-rest : goal.decreases-loop-rest
decreases-loop-rest g l = length l.rest
