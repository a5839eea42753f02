use Rattle.std.proofs.Common.{[], ap, sym, ◌∙◌, List}
use Rattle.core_model.specs.Objects.{initials}
use Rattle.core_model.specs.Filling.{all_filled}
use Rattle.core_model.specs.declared.make.Filling.{Filling}
use Rattle.core_model.specs.declared.program.FieldInfo.{FieldInfo}
use Rattle.core_model.proofs.Filled.{filled-values, filled-next, filled-taken, filled-passed, drop-item}
use Rattle.std.proofs.Math.ListN.{drop_of_length-le}
use Rattle.core_model.proofs.make.Filling.of_fields.Goals as goal
use Rattle.core_model.proofs.make.Filling.of_fields.Goals.{then-field-is_static+in_ok-put, else-field-is_static}

pub loop-field-preserved : goal.loop-field-preserved
loop-field-preserved c =
    let here = ap (λ (xs : List FieldInfo). all_filled c.loop-field.filling (initials c.args.is_static xs))
    (drop-item c.args.fields.now c.loop-field.field-index c.field-item.result c.loop-field-test.true c.field-item.is) in
    elim c.if-field-is_static.branch [
      | then-field-is_static+in_ok-put w ↦
          let taken = filled-taken c.loop-field.filling c.args.is_static c.field-item.result _ w.if-field-is_static.true in
          rw (w.filling-is, w.in_ok-put.ensures) (sym taken ∙ sym here ∙ c.loop-field.invariant)
      | else-field-is_static w ↦
          let passed = filled-passed c.loop-field.filling c.args.is_static c.field-item.result _ w.if-field-is_static.false in
          rw (w.filling-is) (sym passed ∙ sym here ∙ c.loop-field.invariant)
    ]

pub returns-clause-values : goal.returns-clause-values
returns-clause-values c =
    let none = drop_of_length-le c.args.fields.now c.loop-field-test.false in
    let all = ap (λ (xs : List FieldInfo). all_filled c.loop-field.filling (initials c.args.is_static xs)) (sym none) ∙ c.loop-field.invariant in
    ap (λ (f : Filling). f.values) all ∙ filled-values (record { values = []; next = c.args.from }) (initials c.args.is_static c.args.fields.now)

pub returns-clause-next : goal.returns-clause-next
returns-clause-next c =
    let none = drop_of_length-le c.args.fields.now c.loop-field-test.false in
    let all = ap (λ (xs : List FieldInfo). all_filled c.loop-field.filling (initials c.args.is_static xs)) (sym none) ∙ c.loop-field.invariant in
    ap (λ (f : Filling). f.next) all ∙ filled-next (record { values = []; next = c.args.from }) (initials c.args.is_static c.args.fields.now)
