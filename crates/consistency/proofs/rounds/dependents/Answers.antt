use Rattle.std.proofs.Common.{ℕ, Vec, Global, arith, map, [], subst, sym, ◌≡◌, ◌∙◌, ap, length, ◌<◌}
use Rattle.std.proofs.lemmas.List.{get_or-map, get_or_default, map-set, length-map}
use Rattle.consistency.specs.Steps.{Dependents}
use Rattle.consistency.proofs.Rows.{dependents_step}
use Rattle.consistency.proofs.rounds.dependents.Goals as goal

pub loop-l-preserved : goal.loop-l-preserved
loop-l-preserved c =
    let g = c.args.flat.now in
    let items = λ (x : Vec ℕ Global). x.items in
    let n = c.loop-l.l in
    let q = c.index.result.now in
    let a = c.index-in-loop-l.result.now in
    let row = c.index_mut-row.result.now in
    let size = c.loop-l.invariant.size in
    let lt = c.requires.target_in n (let t = c.loop-l-test.true in let e = c.len-l-end.ensures in omega arith) in
    let ll : n < length g.alternative.items = omega arith in
    let lk = c.requires.links in
    let eq = c.index.ensures ∙ get_or_default g.target.items n q 0 (omega (arith, ll, lk)) in
    let ea = c.index-in-loop-l.ensures ∙ get_or_default g.alternative.items n a 0 ll in
    let er = get_or-map items c.loop-l.rows.items q row [] (let z = length-map c.loop-l.rows.items items in omega (arith, lt, eq, size, z)) ∙ sym (ap items c.index_mut-row.ensures.value) in
    rw (map-set, c.in_ok-push.ensures.items) (dependents_step g n (map items c.loop-l.rows.items) q a row.items eq ea er lt c.loop-l.invariant)

pub returns : goal.returns
returns c = subst (λ (z : ℕ). Dependents c.args.flat.now z (map (λ r. r.items) c.loop-l.rows.items)) (let z : c.loop-l.l ≡ length c.args.flat.now.alternative.items = omega arith in z) c.loop-l.invariant
