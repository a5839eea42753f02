use Rattle.std.proofs.Common.{◌≡◌}
use Rattle.core_model.specs.Code.{size_of}
use Rattle.core_model.specs.Step.{next_exit}
use Rattle.core_model.proofs.body.Body.next_exit.Given as goal

abbrev pub invariant-loop-instr : goal.invariant-loop-instr
invariant-loop-instr l = next_exit l.fn.self ≡ next_exit l.self

abbrev pub decreases-loop-instr : goal.decreases-loop-instr
decreases-loop-instr l = size_of l.self
