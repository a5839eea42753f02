use Rattle.std.proofs.Common.{◌+◌, ◌*◌, ◌≤◌, List, drop, length}
use Rattle.lowering.specs.Code.{size_of}
use Rattle.program_maker.specs.Seen.{Name, seen_after}
use Rattle.program_maker.specs.Numbered.{AreSeen}
use Rattle.program_maker.specs.Texts.{list_texts}
use Rattle.program_maker.proofs.Falling.{instr_size}
use Rattle.program_maker.proofs.numbers.+texts.Given as goal

abbrev pub decreases-see_code : goal.decreases-see_code
decreases-see_code l = 1 + 2 * size_of l.code.now

abbrev pub decreases-see_instr : goal.decreases-see_instr
decreases-see_instr l = 2 * instr_size l.instr.now

-- the texts of the instructions from `at` on are seen
abbrev pub invariant-see_code-loop-at : goal.invariant-see_code-loop-at
invariant-see_code-loop-at l = record {
  low : l.at ≤ length l.instrs;
  seen : (before : List Name) → AreSeen l.fn.names before → AreSeen l.names (seen_after before (list_texts (drop l.at l.instrs)));
}

abbrev pub decreases-see_code-loop-at : goal.decreases-see_code-loop-at
decreases-see_code-loop-at l = l.at
