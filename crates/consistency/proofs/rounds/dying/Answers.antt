use Rattle.std.proofs.Common.{ℕ, Vec, Global, List, get_or, map, [], subst, sym, ◌≡◌, ◌∙◌, ap}
use Rattle.std.proofs.lemmas.List.{take_all, get_or-map}
use Rattle.consistency.proofs.Rows.{FoundIn, dying_more}
use Rattle.consistency.proofs.rounds.dying.Goals as goal

pub loop-q-preserved : goal.loop-q-preserved
loop-q-preserved c =
    let items = λ (x : Vec ℕ Global). x.items in
    let i = c.loop-q.q-index in
    let q = get_or c.args.front.now i 0 in
    let lq = c.requires i 0 c.loop-q-test.true in
    let row = c.index-dependents-q.result in
    let is : get_or (map items c.args.dependents.now) q [] ≡ row.items = get_or-map items c.args.dependents.now q row [] lq ∙ sym (ap items c.index-dependents-q.is) in
    rw (c.in_ok-extend_from_slice.ensures.items, c.deref.ensures.value) (dying_more (map items c.args.dependents.now) c.args.front.now i c.loop-q.dying.items row.items c.loop-q-test.true is c.loop-q.invariant)

pub returns-clause-found : goal.returns-clause-found
returns-clause-found c =
    let e = take_all c.loop-q.q-index c.args.front.now c.loop-q-test.false in
    let f : FoundIn (map (λ r. r.items) c.args.dependents.now) c.args.front.now c.loop-q.dying.items = subst (λ (z : List ℕ). FoundIn (map (λ r. r.items) c.args.dependents.now) z c.loop-q.dying.items) e c.loop-q.invariant in
    f.0

pub returns-clause-only : goal.returns-clause-only
returns-clause-only c =
    let e = take_all c.loop-q.q-index c.args.front.now c.loop-q-test.false in
    let f : FoundIn (map (λ r. r.items) c.args.dependents.now) c.args.front.now c.loop-q.dying.items = subst (λ (z : List ℕ). FoundIn (map (λ r. r.items) c.args.dependents.now) z c.loop-q.dying.items) e c.loop-q.invariant in
    f.1
