use Rattle.std.proofs.Common.{◌≡◌, take}
use Rattle.core_model.proofs.body.+copy.Given as goal

abbrev pub invariant-Body::copy-loop-instr : goal.invariant-Body::copy-loop-instr
invariant-Body::copy-loop-instr l = l.instrs ≡ take l.instr-index l.instr-items
