use Rattle.std.proofs.Common.{◌≡◌, ◌+◌, ◌*◌, take}
use Rattle.lowering.specs.Code.{Done, size_of}
use Rattle.lowering.specs.CodeOf.{code_onto}
use Rattle.lowering.specs.Numbers.{numbered}
use Rattle.program_maker.specs.Kept.{numbers_as}
use Rattle.program_maker.proofs.Falling.{instr_size}
use Rattle.program_maker.proofs.numbers.NameNumbers.+numbered.Given as goal

abbrev pub decreases-code : goal.decreases-code
decreases-code l = 1 + 2 * size_of l.code.now

abbrev pub decreases-instr : goal.decreases-instr
decreases-instr l = 2 * instr_size l.instr.now

-- the instructions so far are numbered
abbrev pub invariant-code-loop-instr : goal.invariant-code-loop-instr
invariant-code-loop-instr l = l.body ≡ numbered (numbers_as l.self) (code_onto Done (take l.instr-index l.instr-items))
