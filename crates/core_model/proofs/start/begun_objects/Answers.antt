use Rattle.std.proofs.Common.{◌≡◌, ℕ, ◌-◌, ◌++◌, List, [], replicate, ap, sym, ◌∙◌, arith}
use Rattle.std.proofs.Math.ListN.{drop_of_length-le}
use Rattle.core_model.specs.Begin.{all_held, holders_from, all_fresh}
use Rattle.core_model.specs.Objects.{fresh_object}
use Rattle.core_model.specs.declared.start.Holders.{Holders}
use Rattle.core_model.specs.declared.program.ClassInfo.{ClassInfo}
use Rattle.core_model.specs.declared.object.Obj.{Obj}
use Rattle.core_model.proofs.Filled.{drop-item}
use Rattle.core_model.proofs.Held.{held-next, held-objects}
use Rattle.core_model.proofs.start.begun_objects.Goals as goal

pub loop-info-preserved : goal.loop-info-preserved
loop-info-preserved c =
    let here = ap (λ (xs : List ClassInfo). all_held c.loop-info.holders xs)
    (drop-item c.args.classes.now c.loop-info.info-index c.info-item.result c.loop-info-test.true c.info-item.is) in
    rw c.in_ok-put.ensures (sym here ∙ c.loop-info.invariant)

pub overflow_sub-next : goal.overflow_sub-next
overflow_sub-next c =
    let none = drop_of_length-le c.args.classes.now c.loop-info-test.false in
    let all = ap (λ (xs : List ClassInfo). all_held c.loop-info.holders xs) (sym none) ∙ c.loop-info.invariant in
    let next = ap (λ (h : Holders). h.next) all ∙ held-next (record { objects = []; next = c.in-Ok.first }) c.args.classes.now in
    omega (arith, next)

pub returns : goal.returns
returns c =
    let none = drop_of_length-le c.args.classes.now c.loop-info-test.false in
    let all = ap (λ (xs : List ClassInfo). all_held c.loop-info.holders xs) (sym none) ∙ c.loop-info.invariant in
    let next = ap (λ (h : Holders). h.next) all ∙ held-next (record { objects = []; next = c.in-Ok.first }) c.args.classes.now in
    let objects = ap (λ (h : Holders). h.objects) all ∙ held-objects (record { objects = []; next = c.in-Ok.first }) c.args.classes.now in
    let fresh : c.loop-info.holders.next - c.in-Ok.first ≡ all_fresh c.args.classes.now = omega (arith, next) in
    c.in_ok-push_fresh.ensures
    ∙ ap (λ (os : List Obj). os ++ replicate (c.loop-info.holders.next - c.in-Ok.first) fresh_object) objects
    ∙ ap (λ (n : ℕ). holders_from 0 c.in-Ok.first c.args.classes.now ++ replicate n fresh_object) fresh
    ∙ ap (λ (n : ℕ). holders_from 0 n c.args.classes.now ++ replicate (all_fresh c.args.classes.now) fresh_object) c.in-Ok.ensures.1
