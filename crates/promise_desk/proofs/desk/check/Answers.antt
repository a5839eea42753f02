use Rattle.std.proofs.Common.{List, ℕ, IfOk, subst, sym}
use Rattle.desk_base.specs.Fault.{Rises}
use Rattle.promise_desk.specs.declared.check.Ending.{Ending}
use Rattle.promise_desk.specs.Endings.{CheckEnds, EndsAs, text_of}
use Rattle.promise_desk.proofs.Files.{judged_ends, too_long}
use Rattle.promise_desk.proofs.desk.check.Goals as goal

pub returns-in-Ok-past_limit-clause-ends : goal.returns-in-Ok-past_limit-clause-ends
returns-in-Ok-past_limit-clause-ends g c =
    too_long (g.I.Source.left c.args.input.now) (g.I.Source.left c.read_all.new.input)
    (Rises (g.I.Source.faults c.args.input.now) (g.I.Source.faults c.read_all.new.input))
    c.in-Ok-past_limit.ending.status (text_of c.in-Ok-past_limit.ending.text) (rw c.in-Err-TooLong.field-0-is at c.in-Err-TooLong.ensures.cause) c.in-Ok-past_limit.ensures.0 c.in-Ok-past_limit.ensures.1

pub returns-in-Ok-clause-ends : goal.returns-in-Ok-clause-ends
returns-in-Ok-clause-ends g c =
    let left = g.I.Source.left c.args.input.now in
    let after = g.I.Source.left c.read_all.new.input in
    let rose = Rises (g.I.Source.faults c.args.input.now) (g.I.Source.faults c.read_all.new.input) in
    let P : Ending → Type 0 = λ e. CheckEnds left after rose e.status (text_of e.text) in
    let made = subst (λ (b : List ℕ). IfOk c.judge_bundle.result (EndsAs b)) c.as_slice.ensures.value c.judge_bundle.ensures in
    subst P (sym c.unwrap_or.ensures) (judged_ends left after rose c.in-Ok.bytes.items c.judge_bundle.result c.fixed.result c.in-Ok.ensures.read made c.fixed.ensures.status c.fixed.ensures.text)
