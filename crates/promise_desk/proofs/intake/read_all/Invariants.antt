use Rattle.std.proofs.Common.{◌≡◌, ◌-◌, vec_len, length}
use Rattle.promise_desk.specs.Intake.{Moved}
use Rattle.promise_desk.proofs.Inputs.{Taken}
use Rattle.promise_desk.proofs.intake.read_all.Given as goal

-- what was taken so far, and what is left; the counts
abbrev pub invariant-loop-input : goal.invariant-loop-input
invariant-loop-input g l = record {
  taken : Taken (g.I.Source.left l.fn.input) (g.I.Source.left l.input) l.bytes.items;
  moved : Moved (g.I.Source.faults l.fn.input) (g.I.Source.quiet l.fn.input) (g.I.Source.faults l.input) (g.I.Source.quiet l.input);
  chunk : length l.chunk.items ≡ 65536;
  few : vec_len l.bytes ≡ length l.bytes.items;
}

abbrev pub decreases-loop-input : goal.decreases-loop-input
decreases-loop-input g l = 20971521 - length l.bytes.items
