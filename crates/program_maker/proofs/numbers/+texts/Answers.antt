use Rattle.std.proofs.Common.{ap, ◌∙◌, sym, subst, arith}
use Rattle.lowering.specs.declared.code.NamedInstr.{NamedInstr}
use Rattle.program_maker.specs.Seen.{seen_after}
use Rattle.program_maker.specs.Numbered.{AreSeen}
use Rattle.program_maker.specs.Texts.{code_texts, instr_texts}
use Rattle.program_maker.proofs.Falling.{item-within}
use Rattle.program_maker.proofs.Seeing.{seen-append, texts_more, texts_all}
use Rattle.program_maker.proofs.numbers.+texts.Goals as goal

pub see_code-see_instr-requires : goal.see_code-see_instr-requires
see_code-see_instr-requires t c =
    let low = c.loop-at.invariant.low in
    (omega (arith, c.decreases, item-within c.instrs-instrs.result.now _ c.index-instrs-at.result c.args.code.now (omega arith) c.index-instrs-at.is c.instrs-instrs.ensures), tt)

pub see_code-loop-at-preserved : goal.see_code-loop-at-preserved
see_code-loop-at-preserved t c = record {
  low = let low = c.loop-at.invariant.low in omega arith;
  seen = λ before k.
      subst (AreSeen c.see_instr.new.names)
      (sym (texts_more before c.instrs-instrs.result.now c.loop-at.at c.index-instrs-at.result c.loop-at-test.true c.loop-at.invariant.low c.index-instrs-at.is))
      (c.in_ok-see_instr.ensures _ (c.loop-at.invariant.seen before k));
}

pub see_code-returns : goal.see_code-returns
see_code-returns t c before k =
    subst (AreSeen c.loop-at.names)
    (texts_all before c.instrs-instrs.result.now c.loop-at.at c.args.code.now (omega (arith, c.loop-at-test.false)) c.instrs-instrs.ensures)
    (c.loop-at.invariant.seen before k)

pub see_instr-returns-in_ok-see_code-in-If-2 : goal.see_instr-returns-in_ok-see_code-in-If-2
see_instr-returns-in_ok-see_code-in-If-2 t c before k =
    subst (AreSeen c.see_code-in-If.new.names)
    (sym (ap (λ (i : NamedInstr). seen_after before (instr_texts i)) c.in-If.is ∙ seen-append before (code_texts c.in-If.yes) (code_texts c.in-If.no)))
    (c.in_ok-see_code-in-If-2.ensures _ (c.in_ok-see_code-in-If.ensures before k))

pub see_instr-returns-in_ok-see_code-in-While-2 : goal.see_instr-returns-in_ok-see_code-in-While-2
see_instr-returns-in_ok-see_code-in-While-2 t c before k =
    subst (AreSeen c.see_code-in-While-2.new.names)
    (sym (ap (λ (i : NamedInstr). seen_after before (instr_texts i)) c.in-While.is ∙ seen-append before (code_texts c.in-While.condition) (code_texts c.in-While.body)))
    (c.in_ok-see_code-in-While-2.ensures _ (c.in_ok-see_code-in-While.ensures before k))
