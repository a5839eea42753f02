use Rattle.std.proofs.Common.{ap, ◌∙◌, sym, arith}
use Rattle.core_model.specs.CodeOf.{before}
use Rattle.core_model.specs.declared.body.Instr.{Instr}
use Rattle.program_maker.specs.Kept.{numbers_as}
use Rattle.program_maker.specs.InstrNumbers.{instr_number}
use Rattle.program_maker.proofs.Falling.{item-within}
use Rattle.program_maker.proofs.Renaming.{numbered_more}
use Rattle.program_maker.proofs.numbers.NameNumbers.+numbered.Goals as goal

pub code-instr-requires : goal.code-instr-requires
code-instr-requires t c =
    (omega (arith, c.decreases, item-within c.instrs-instr-items.result.now c.loop-instr.instr-index c.instr-item.result c.args.code.now c.loop-instr-test.true c.instr-item.is c.instrs-instr-items.ensures), tt)

pub code-loop-instr-preserved : goal.code-loop-instr-preserved
code-loop-instr-preserved t c =
    c.in_ok-push.ensures
    ∙ ap (λ (i : Instr). before i c.loop-instr.body) c.in_ok-instr.ensures
    ∙ ap (before (instr_number (numbers_as c.args.self.now) c.instr-item.result)) c.loop-instr.invariant
    ∙ sym (numbered_more (numbers_as c.args.self.now) c.instrs-instr-items.result.now c.loop-instr.instr-index c.instr-item.result c.loop-instr-test.true c.instr-item.is)
