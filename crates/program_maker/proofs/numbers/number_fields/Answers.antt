use Rattle.std.proofs.Common.{◌∙◌, sym, subst, true, false, take, ◌+◌}
use Rattle.program_maker.specs.Naming.{field_place}
use Rattle.program_maker.specs.Numbered.{HasNumbers}
use Rattle.program_maker.proofs.Fielding.{field_more, kind_gains, kind_stays, kind_number}
use Rattle.program_maker.proofs.numbers.number_fields.Goals as goal
use Rattle.program_maker.proofs.numbers.number_fields.Goals.{then-field+in_ok-short+in_ok-put_first, else-field+in_ok-short-2+in_ok-put_first-2}

pub loop-field-preserved : goal.loop-field-preserved
loop-field-preserved c = elim c.if-field.branch [
  | then-field+in_ok-short+in_ok-put_first w ↦ record {
    statics = kind_gains true c.args.fields.now c.loop-field.field-index c.field-item.result c.loop-field.statics c.if-field.statics c.loop-field-test.true c.field-item.is w.if-field.true c.loop-field.invariant.statics w.statics-is;
    others = kind_stays false c.args.fields.now c.loop-field.field-index c.field-item.result c.loop-field.others c.if-field.others c.loop-field-test.true c.field-item.is w.if-field.true c.loop-field.invariant.others w.others-is;
    numbers = subst (λ numbers. HasNumbers numbers (field_place (take (c.loop-field.field-index + 1) c.args.fields.now))) (sym w.numbers-is)
        (field_more c.args.fields.now c.loop-field.field-index c.field-item.result c.loop-field.numbers w.put_first.new.numbers w.as_slice.result.now w.in_ok-short.field-0
        c.loop-field-test.true c.field-item.is w.as_slice.ensures
        (w.in_ok-short.ensures ∙ kind_number true (take c.loop-field.field-index c.args.fields.now) c.field-item.result c.loop-field.statics w.if-field.true c.loop-field.invariant.statics)
        c.loop-field.invariant.numbers w.in_ok-put_first.ensures);
  }
  | else-field+in_ok-short-2+in_ok-put_first-2 w ↦ record {
    statics = kind_stays true c.args.fields.now c.loop-field.field-index c.field-item.result c.loop-field.statics c.if-field.statics c.loop-field-test.true c.field-item.is w.if-field.false c.loop-field.invariant.statics w.statics-is;
    others = kind_gains false c.args.fields.now c.loop-field.field-index c.field-item.result c.loop-field.others c.if-field.others c.loop-field-test.true c.field-item.is w.if-field.false c.loop-field.invariant.others w.others-is;
    numbers = subst (λ numbers. HasNumbers numbers (field_place (take (c.loop-field.field-index + 1) c.args.fields.now))) (sym w.numbers-is)
        (field_more c.args.fields.now c.loop-field.field-index c.field-item.result c.loop-field.numbers w.put_first-else-field.new.numbers w.as_slice-else-field.result.now w.in_ok-short-2.field-0
        c.loop-field-test.true c.field-item.is w.as_slice-else-field.ensures
        (w.in_ok-short-2.ensures ∙ kind_number false (take c.loop-field.field-index c.args.fields.now) c.field-item.result c.loop-field.others w.if-field.false c.loop-field.invariant.others)
        c.loop-field.invariant.numbers w.in_ok-put_first-2.ensures);
  }
]
