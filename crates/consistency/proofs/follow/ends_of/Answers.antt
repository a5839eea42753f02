use Rattle.std.proofs.Common.{◌≡◌, ◌<◌, ℕ, List, ap, arith, get_or, length, ◌∙◌, subst, take}
use Rattle.std.specs.Prelude.{None, Option}
use Rattle.std.proofs.lemmas.List.{length-set, take_all}
use Rattle.consistency.specs.Tables.{EndsTo, end_by}
use Rattle.consistency.proofs.Causing.{ends_all, ends_more, place_in}
use Rattle.consistency.proofs.follow.ends_of.Goals as goal

pub bounds-steps-promise : goal.bounds-steps-promise
bounds-steps-promise c =
    let xs = c.deref-promise-items.result.now in
    let i = c.loop-promise.promise-index in
    let w = c.requires.order.within (get_or xs i 0) (place_in xs c.args.rounds.now.order.items i c.deref-promise-items.ensures.value c.loop-promise-test.true) in
    let l = w.0 in let s = c.requires.size in omega (arith, l, s)

pub index_mut-requires : goal.index_mut-requires
index_mut-requires c =
    let xs = c.deref-promise-items.result.now in
    let i = c.loop-promise.promise-index in
    let w = c.requires.order.within (get_or xs i 0) (place_in xs c.args.rounds.now.order.items i c.deref-promise-items.ensures.value c.loop-promise-test.true) in
    let l = w.0 in let s = c.loop-promise.invariant.0 in let o = c.loop-promise.ends.ok.0 in omega (arith, l, s, o)

pub loop-promise-preserved : goal.loop-promise-preserved
loop-promise-preserved c =
    let r = c.args.rounds.now in
    let xs = c.deref-promise-items.result.now in
    let e = c.deref-promise-items.ensures.value in
    let i = c.loop-promise.promise-index in
    let p = get_or xs i 0 in
    let v = c.end_of-end.result in
    let ends = c.loop-promise.ends.items in
    let size = ap (λ (z : List ℕ). length z) e in
    let lt : i < length r.order.items = (let t = c.loop-promise-test.true in omega (arith, t, size)) in
    let is : p ≡ get_or r.order.items i 0 = ap (λ (z : List ℕ). get_or z i 0) e in
    let ve : v ≡ end_by ends (get_or c.args.steps.now p None) = c.end_of-end.ensures ∙ ap (λ (z : List (Option ℕ)). end_by z (get_or c.args.steps.now p None)) c.deref.ensures.value in (
      length-set ends p v ∙ c.loop-promise.invariant.0,
      λ falls. ends_more r.left.items c.args.steps.now r.order.items i p ends v lt is c.loop-promise.invariant.0 c.requires.order falls ve (c.loop-promise.invariant.1 falls),
    )

pub returns-clause-ends : goal.returns-clause-ends
returns-clause-ends c = λ falls.
    let r = c.args.rounds.now in
    let i = c.loop-promise.promise-index in
    let size = ap (λ (z : List ℕ). length z) c.deref-promise-items.ensures.value in
    let all : take i r.order.items ≡ r.order.items = take_all i r.order.items (let t = c.loop-promise-test.false in omega (arith, t, size)) in
    ends_all r.left.items c.args.steps.now r.order.items c.loop-promise.ends.items c.requires.order
    (subst (λ (z : List ℕ). EndsTo r.left.items c.args.steps.now z c.loop-promise.ends.items) all (c.loop-promise.invariant.1 falls))
