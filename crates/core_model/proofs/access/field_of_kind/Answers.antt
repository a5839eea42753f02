use Rattle.std.proofs.Common.{◌≡◌, ◌-◌, ◌<◌, ℕ, suc, List, ◌∷◌, Some, drop, slice_get, refl, ap, sym, ◌∙◌, arith}
use Rattle.std.proofs.Math.ListN.{drop_of_length-le}
use Rattle.core_model.specs.Objects.{of_kind}
use Rattle.core_model.specs.declared.program.FieldInfo.{FieldInfo}
use Rattle.core_model.proofs.Filled.{kind-at, kind-past}
use Rattle.core_model.proofs.access.field_of_kind.Goals as goal
use Rattle.core_model.proofs.access.field_of_kind.Goals.{then-field-is_static+else-left-eq0, else-field-is_static}

get-later : {T : Type 0} (x : T) (xs : List T) (n : ℕ) → 0 < n → slice_get (x ∷ xs) n ≡ slice_get xs (n - 1)
get-later x xs n lt = let e : n ≡ suc (n - 1) = omega arith in ap (slice_get (x ∷ xs)) e

pub loop-field-preserved : goal.loop-field-preserved
loop-field-preserved c =
    elim c.if-field-is_static.branch [
      | then-field-is_static+else-left-eq0 w ↦
          let here = ap (λ (xs : List FieldInfo). slice_get xs c.loop-field.left)
          (kind-at c.args.is_static c.args.fields.now c.loop-field.field-index c.field-item.result c.loop-field-test.true c.field-item.is w.if-field-is_static.true) in
          let some : 0 < c.loop-field.left = omega (arith, w.if-left-eq0.false) in
          rw (w.left-is) (sym (get-later c.field-item.result _ c.loop-field.left some) ∙ sym here ∙ c.loop-field.invariant)
      | else-field-is_static w ↦
          let here = ap (λ (xs : List FieldInfo). slice_get xs c.loop-field.left)
          (kind-past c.args.is_static c.args.fields.now c.loop-field.field-index c.field-item.result c.loop-field-test.true c.field-item.is w.if-field-is_static.false) in
          rw (w.left-is) (sym here ∙ c.loop-field.invariant)
    ]

pub returns-then-left-eq0 : goal.returns-then-left-eq0
returns-then-left-eq0 c =
    let here = kind-at c.args.is_static c.args.fields.now c.loop-field.field-index c.field-item.result c.loop-field-test.true c.field-item.is c.if-field-is_static.true in
    let found : slice_get (of_kind c.args.is_static (drop c.loop-field.field-index c.args.fields.now)) c.loop-field.left ≡ Some c.field-item.result =
    rw (here, c.if-left-eq0.true) refl in
    sym found ∙ c.loop-field.invariant

pub returns : goal.returns
returns c =
    let none = drop_of_length-le c.args.fields.now c.loop-field-test.false in
    ap (λ (xs : List FieldInfo). slice_get (of_kind c.args.is_static xs) c.loop-field.left) (sym none) ∙ c.loop-field.invariant
