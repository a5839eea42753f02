use Rattle.std.proofs.Common.{◌≡◌, List, ap, arith, length}
use Rattle.desk_base.specs.declared.key.PromiseKey.{PromiseKey}
use Rattle.consistency.proofs.Judging.{run_of}
use Rattle.consistency.proofs.solving.run.Goals as goal

pub returns-clause-runs : goal.returns-clause-runs
returns-clause-runs c = λ ps fs is.
    let g = c.args.graph.now in
    let flat = c.in_ok-flat.flat in
    let numbered = rw c.deref.ensures.value at c.in_ok-flat.ensures.numbered in
    let count : flat.promises ≡ length ps =
    (let a = c.in_ok-flat.ensures.promises in let l = c.len.ensures in let o = g.keys.ok.0 in let k = ap (λ (z : List PromiseKey). length z) is.keys in omega (arith, a, l, o, k)) in
    run_of c.args.given ps g.words.items g.clauses.items fs flat c.in_ok-rounds.rounds.left.items (record { distinct = is.distinct; clauses = is.clauses }) numbered count
    c.in_ok-rounds.ensures.solved c.in_ok-rounds.ensures.consistent
